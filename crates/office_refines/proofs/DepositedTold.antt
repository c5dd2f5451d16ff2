-- The rows of an office after a deposit was made.
use Rattle.office_refines.proofs.FirstLemmas.{◌≡◌, ℕ, ◌+◌, pos, Bool, List, [], ◌∷◌, ◌++◌, map, filter, length, is_none, refl, sym, ap, ◌∙◌, arith, zero, suc, ◌<◌, Some, None, Less, subst, cond, append-nil, append_assoc, add-one, option_map_or, int_cmp, length_push, flat_map, range_with_len, AllByRecursion, filter-append, Date, File, slice_get_last, put_by, Tables, DepositRow, FileRow, this_version, with_deposit_and_due, put_last, item_numbered, numbers, History, Change, Deposit, Deposited, with_changes, deposits, due, live_holds, destruction_day, due_row, due_rows, row_by_gone, deposit_row, deposit_rows, file_row, file_rows, picture, with_files, due_number, rows_from, rows_append, below, item_front, range_last, same_due_row, same_classes, same_collection_rows, same_gone, same_hold_rows, pictured_by, due_rows_are, deposit_rows_are, by_Bool, one_deposit}
use Rattle.std.proofs.lemmas.List.Concat.{flat_map-append}

files_added : (n : ℕ) (files : List File) (t : Tables) → with_files (pos n) files t ≡ record t { files = t.files ++ map (file_row n) files }
files_added n [] t = λ i. record t { files = sym (append-nil t.files) i }
files_added n (f ∷ files) t =
    files_added n files (record t { files = t.files ++ file_row n f ∷ [] })
    ∙ ap (λ (fs : List FileRow). record t { files = fs }) (append_assoc t.files (file_row n f ∷ []) (map (file_row n) files))

-- what is gathered of numbers in a row that a filter keeps
same_gathered : {A : Type 0} (f g : ℕ → List A) (keeps : ℕ → Bool) (len start : ℕ) → ((n : ℕ) → n < start + len → f n ≡ g n) → flat_map f (filter keeps (range_with_len start len)) ≡ flat_map g (filter keeps (range_with_len start len))
same_gathered f g keeps zero start same = refl
same_gathered f g keeps (suc len) start same =
    let rest = same_gathered f g keeps len (start + 1) (λ n low. same n (omega (arith, low))) in
    by_Bool (keeps start) (λ kept. rw kept (λ i. same start (omega arith) i ++ rest i)) (λ gone. rw gone rest)

module _ (h : History) (day : Date) (d : Deposit) where
  abbrev more : List Change
  more = Deposited day d ∷ []

  abbrev longer : History
  longer = with_changes h more

  abbrev next : ℕ
  next = 1 + length (deposits h)

  dues_deposited : put_by (λ r. r.number) (due_row h next (day, d)) (due_rows h) ≡ due_rows longer
  dues_deposited =
      let old = rows_from (due_row h) 1 (deposits h) in
      ap (put_by (λ r. r.number) (due_row h next (day, d))) (due_rows_are h)
      ∙ put_last (λ r. r.number) (due_row h next (day, d)) old (below (due_row h) (λ r. r.number) (λ m x. refl) next (deposits h) refl)
      ∙ sym (rows_append (due_row h) (deposits h) ((day, d) ∷ []) 1)
      ∙ (λ i. rows_from (λ m x. sym (same_due_row h more (λ name. refl) refl (λ k. refl) m x) i) 1 (deposits h ++ (day, d) ∷ []))
      ∙ ap (rows_from (due_row longer) 1) (sym (one_deposit h day d [] refl))
      ∙ sym (due_rows_are longer)

  module _ (not_gone : destruction_day h next ≡ None) where
    abbrev new_row : DepositRow
    new_row = row_by_gone next None (day, d)

    deposits_told : put_by (λ r. r.number) new_row (deposit_rows h) ≡ deposit_rows longer
    deposits_told =
        put_last (λ r. r.number) new_row (deposit_rows h) (subst (AllByRecursion (λ (r : DepositRow). int_cmp r.number (pos next) ≡ Less)) (sym (deposit_rows_are h)) (below (deposit_row h) (λ r. r.number) (λ m x. refl) next (deposits h) refl))
        ∙ (λ i. deposit_rows_are h i ++ row_by_gone next (sym not_gone i) (day, d) ∷ [])
        ∙ sym (rows_append (deposit_row h) (deposits h) ((day, d) ∷ []) 1)
        ∙ (λ i. rows_from (λ m. row_by_gone m (sym (same_gone h more (λ n. refl) m) i)) 1 (deposits h ++ (day, d) ∷ []))
        ∙ ap (rows_from (deposit_row longer) 1) (sym (one_deposit h day d [] refl))
        ∙ sym (deposit_rows_are longer)

    abbrev files_in : List (Date × Deposit) → ℕ → List FileRow
    files_in ds m = map (file_row m) (option_map_or (λ (f : Date × Deposit). f.1.bag) (item_numbered ds m) [])

    abbrev keeps : ℕ → Bool
    keeps m = is_none (destruction_day h m)

    files_told : file_rows h ++ map (file_row next) d.bag ≡ file_rows longer
    files_told =
        (λ i. old i ++ sym last i)
        ∙ sym (flat_map-append (files_in (deposits h ++ (day, d) ∷ [])) (filter keeps (numbers (length (deposits h)))) (filter keeps (next ∷ [])))
        ∙ ap (flat_map (files_in (deposits h ++ (day, d) ∷ []))) (sym (filter-append keeps (numbers (length (deposits h))) (next ∷ [])))
        ∙ ap (λ ks. flat_map (files_in (deposits h ++ (day, d) ∷ [])) (filter keeps ks)) (sym (range_last 1 (length (deposits h))) ∙ ap (range_with_len 1) (sym (length_push (deposits h) (day, d) ∙ add-one (length (deposits h)))))
        ∙ (λ i. let ds = sym (one_deposit h day d [] refl) i in flat_map (files_in ds) (filter (λ m. is_none (sym (same_gone h more (λ n. refl) m) i)) (numbers (length ds))))
      where
        old : file_rows h ≡ flat_map (files_in (deposits h ++ (day, d) ∷ [])) (filter keeps (numbers (length (deposits h))))
        old = same_gathered (files_in (deposits h)) (files_in (deposits h ++ (day, d) ∷ [])) keeps (length (deposits h)) 1 (λ n low.
            ap (λ o. map (file_row n) (option_map_or (λ (f : Date × Deposit). f.1.bag) o [])) (sym (item_front (deposits h) ((day, d) ∷ []) n low)))

        there : item_numbered (deposits h ++ (day, d) ∷ []) next ≡ Some (day, d)
        there = let one : suc (length (deposits h)) ≡ next = omega arith in subst (λ k. item_numbered (deposits h ++ (day, d) ∷ []) k ≡ Some (day, d)) one (slice_get_last (deposits h) (day, d) [])

        last : flat_map (files_in (deposits h ++ (day, d) ∷ [])) (filter keeps (next ∷ [])) ≡ map (file_row next) d.bag
        last =
            ap (λ o. flat_map (files_in (deposits h ++ (day, d) ∷ [])) (cond (is_none o) (next ∷ []) [])) not_gone
            ∙ ap (λ o. map (file_row next) (option_map_or (λ (f : Date × Deposit). f.1.bag) o []) ++ []) there
            ∙ append-nil (map (file_row next) d.bag)

    pub deposited_told : with_files (pos next) d.bag (with_deposit_and_due new_row (due_number (due h d)) (pos (length (live_holds h next d))) (picture this_version h)) ≡ picture this_version longer
    deposited_told =
        files_added next d.bag (with_deposit_and_due new_row (due_number (due h d)) (pos (length (live_holds h next d))) (picture this_version h))
        ∙ pictured_by h more refl (sym (same_classes h more refl (λ name. refl))) (sym (same_collection_rows h more refl))
        deposits_told dues_deposited files_told (sym (same_hold_rows h more refl (λ k. refl)))
