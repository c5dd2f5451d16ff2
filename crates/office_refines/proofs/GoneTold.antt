-- The rows of an office after a deposit was destroyed.
use Rattle.office_refines.proofs.FirstLemmas.{◌≡◌, ℕ, ◌+◌, ◌==◌, pos, Bool, true, false, not, List, [], ◌∷◌, ◌++◌, length, map, filter, Some, None, is_none, refl, sym, ap, ◌∙◌, cond, if◌then◌else◌, flat_map, option_or, option_map_or, int_eq, Date, epoch_day, File, DepositRow, FileRow, is_deposit, is_file_of, with_gone, without_files, this_version, item_numbered, numbers, History, Change, Destroyed, Deposit, with_changes, deposits, destruction_day, files_of, row_by_gone, deposit_row, deposit_rows, file_row, file_rows, picture, gone_grown, or_none, rows_from, rows_changed, itself, another, mark, deposit_rows_are, same_due_rows, same_classes, same_collection_rows, same_deposits, same_hold_rows, pictured_by}
use Rattle.office_refines.proofs.FilesTold.{file_rows_at, filter_gathered}

module _ (h : History) (day : Date) (n : ℕ) (kept_before : destruction_day h n ≡ None) where
  abbrev more : List Change
  more = Destroyed day n ∷ []

  abbrev longer : History
  longer = with_changes h more

  gone_then : (m : ℕ) → destruction_day longer m ≡ option_or (destruction_day h m) (if n == m then Some day else None)
  gone_then m = gone_grown h more m ∙ ap (option_or (destruction_day h m)) (or_none (if n == m then Some day else None))

  -- the deposit itself, and each other one
  this_one : (m : ℕ) → int_eq (pos m) (pos n) ≡ true → (destruction_day h m ≡ None) × (destruction_day longer m ≡ Some day)
  this_one = itself (destruction_day h) (destruction_day longer) n day kept_before gone_then

  another_one : (m : ℕ) → int_eq (pos m) (pos n) ≡ false → destruction_day longer m ≡ destruction_day h m
  another_one = another (destruction_day h) (destruction_day longer) n day kept_before gone_then

  abbrev marked : DepositRow → DepositRow
  marked d = if is_deposit (pos n) d then record d { gone = Some (epoch_day day) } else d

  deposits_told : map marked (deposit_rows h) ≡ deposit_rows longer
  deposits_told =
      ap (map marked) (deposit_rows_are h)
      ∙ rows_changed marked (deposit_row h) (λ m. row_by_gone m (destruction_day longer m)) (deposits h) 1 (λ i x e. mark (destruction_day h) (destruction_day longer) n day kept_before gone_then row_by_gone (1 + i) x)
      ∙ ap (rows_from (λ m. row_by_gone m (destruction_day longer m)) 1) (sym (same_deposits h more refl))
      ∙ sym (deposit_rows_are longer)

  -- ---- the files

  abbrev stays : FileRow → Bool
  stays f = not (is_file_of (pos n) f)

  own_dropped : (m : ℕ) (files : List File) → int_eq (pos m) (pos n) ≡ true → filter stays (map (file_row m) files) ≡ []
  own_dropped m [] e = refl
  own_dropped m (f ∷ files) e = λ i. cond (not (e i)) (file_row m f ∷ filter stays (map (file_row m) files)) (own_dropped m files e i)

  others_stay : (m : ℕ) (files : List File) → int_eq (pos m) (pos n) ≡ false → filter stays (map (file_row m) files) ≡ map (file_row m) files
  others_stay m [] e = refl
  others_stay m (f ∷ files) e = λ i. cond (not (e i)) (file_row m f ∷ others_stay m files e i) (filter stays (map (file_row m) files))

  abbrev kept_first : List ℕ → List ℕ
  kept_first ms = filter (λ k. is_none (destruction_day h k)) ms

  abbrev kept_then : List ℕ → List ℕ
  kept_then ms = filter (λ k. is_none (destruction_day longer k)) ms

  dropped : (ms : List ℕ) → filter stays (flat_map (file_rows_at h) (filter (λ m. is_none (destruction_day h m)) ms)) ≡ flat_map (file_rows_at h) (filter (λ m. is_none (destruction_day longer m)) ms)
  dropped [] = refl
  dropped (m ∷ ms) = by (int_eq (pos m) (pos n)) refl (dropped ms)
    where
      back : (b : Bool) → flat_map (file_rows_at h) (cond b (m ∷ (kept_then ms)) (kept_then ms)) ≡ cond b (file_rows_at h m) [] ++ flat_map (file_rows_at h) (kept_then ms)
      back true = refl
      back false = refl

      by : (b : Bool) → int_eq (pos m) (pos n) ≡ b → filter stays (flat_map (file_rows_at h) (kept_first ms)) ≡ flat_map (file_rows_at h) (kept_then ms)
          → filter stays (flat_map (file_rows_at h) (cond (is_none (destruction_day h m)) (m ∷ (kept_first ms)) (kept_first ms))) ≡ flat_map (file_rows_at h) (cond (is_none (destruction_day longer m)) (m ∷ (kept_then ms)) (kept_then ms))
      by true e rest =
          filter_gathered stays (file_rows_at h) (is_none (destruction_day h m)) m (kept_first ms)
          ∙ (λ i. cond (is_none ((this_one m e).0 i)) (own_dropped m (files_of h m) e i) [] ++ rest i)
          ∙ (λ i. cond (is_none (sym (this_one m e).1 i)) (file_rows_at h m) [] ++ flat_map (file_rows_at h) (kept_then ms))
          ∙ sym (back (is_none (destruction_day longer m)))
      by false e rest =
          filter_gathered stays (file_rows_at h) (is_none (destruction_day h m)) m (kept_first ms)
          ∙ (λ i. cond (is_none (sym (another_one m e) i)) (others_stay m (files_of h m) e i) [] ++ rest i)
          ∙ sym (back (is_none (destruction_day longer m)))

  files_told : filter stays (file_rows h) ≡ file_rows longer
  files_told =
      dropped (numbers (length (deposits h)))
      ∙ (λ i. let ds = sym (same_deposits h more refl) i in flat_map (λ m. map (file_row m) (option_map_or (λ (f : Date × Deposit). f.1.bag) (item_numbered ds m) [])) (filter (λ m. is_none (destruction_day longer m)) (numbers (length ds))))

  pub gone_told : without_files (pos n) (with_gone (pos n) (epoch_day day) (picture this_version h)) ≡ picture this_version longer
  gone_told =
      pictured_by h more refl (sym (same_classes h more refl (λ name. refl))) (sym (same_collection_rows h more refl))
      deposits_told (sym (same_due_rows h more refl (λ name. refl) refl (λ k. refl))) files_told (sym (same_hold_rows h more refl (λ k. refl)))
