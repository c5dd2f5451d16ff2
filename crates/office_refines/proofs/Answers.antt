-- What is answered by the rows of a legal history, where nothing refuses it, is what the history answers.
use Rattle.office_refines.proofs.FirstLemmas.{◌≡◌, ℕ, ◌+◌, ◌*◌, suc, ℤ, pos, ◌≤ℤ◌, ◌&&◌, Bool, true, false, List, [], ◌∷◌, length, Option, Some, None, IfSome, filter, find, map, slice_get, is_none, option_map, refl, sym, ap, subst, ◌∙◌, inl, inr, arith, cond, if◌then◌else◌, bytes_eq, AllByRecursion, cons_option, filter_map, range_with_len, option_map_or, Date, epoch_day, Has, contains_has, is_good, File, IsBag, content_at, max_content, max_files, set_text, and_parts, signed_arith, sort_by, IsDayNumber, ◌>>=◌, answer_if, first_some, IsName, is_name, denial_verdict, Action, Answer, DepositRecord, Refusal, NoFile, Request, Record, Holds, DownloadBag, DownloadFile, Audit, HoldDeposit, HoldCollection, HoldClass, DueList, ClassRow, DepositRow, DueRow, FileRow, Tables, is_disposable, is_file_of, this_version, DisposableRow, disposable_rows, disposable_row, Wanted, file_answer, is_selected, live_hold, record_of, told_of, History, Deposit, covers, deposits, destruction_day, due, hold_numbered, holds, is_live, live_holds, policy, role_of, numbers, deposit_row, due_row, file_row, file_rows, hold_row, picture, AreInRange, IsClassRow, IsDepositRow, report_on, IsLegal, IsSound, all_told, count_up_to, due_of_number, things_told, Visit, hold_by, told_hold, told_holds, highest_deposit, highest_hold, number_after, allowed_answer, audit_of, audit_unless, bag_in, content_stored, file_in, has_names, holds_in, is_allowed_for, is_shown_unless, listed_records, path_cmp, disposable_told, record_by, record_in, stored_files, told_if, day_back, HasBagOf, refusal_before, between, due_number, deposit_numbered, description_of, due_list, listed_record, both, rows_beside, live_told, rows_from, by_Bool, by_Option, none_of, not_gone}
use Rattle.office_core.specs.declared.request.Request.TheVariants.{Deposit as MakeDeposit, List as ListDeposits}
use Rattle.bag_text.specs.BagList.{list_fault}
use Rattle.bag_check.specs.Validity.{payload_bytes, payload_files}
use Rattle.office_core.specs.declared.action.Action.TheVariants as acts
use Rattle.office_core.specs.declared.answer.Answer.TheVariants as answers
use Rattle.office_rows.specs.Rows as rows
use Rattle.office_history.specs.Answers as histories
use Rattle.office_history.specs.Refusals as refusing
use Rattle.office_refines.proofs.FilesTold.{files_at, in_path_order, no_file_there}
use Rattle.office_refines.proofs.ListsTold.{due_list_is, may_destroy, shown_record, told_of_those}
use Rattle.office_refines.proofs.Readings.{days_exact, decision_exact, due_exact, found_all, hold_at, hold_told_exact, kept_there, released_days, role_exact, row_there}
use Rattle.office_refines.proofs.Refusals.{highest_deposit_is, highest_hold_is, next_at}

-- ---- rows that are numbered from 1, and what is told of each

-- of each something is told, by its number
each_numbered : {A B R : Type 0} (row : ℕ → A → R) (tell : R → Option (Option B)) (told : ℕ → Option B) (xs : List A) (start : ℕ) → ((i : ℕ) (x : A) → slice_get xs i ≡ Some x → tell (row (start + i) x) ≡ Some (told (start + i)))
    → things_told tell (rows_from row start xs) ≡ Some (filter_map told (range_with_len start (length xs)))
each_numbered row tell told [] start same = refl
each_numbered {A = A} row tell told (x ∷ xs) start same =
    let none : start + 0 ≡ start = omega arith in
    let first : tell (row start x) ≡ Some (told start) = subst (λ k. tell (row k x) ≡ Some (told k)) none (same 0 x refl) in
    let more : (i : ℕ) (y : A) → slice_get xs i ≡ Some y → tell (row (start + 1 + i) y) ≡ Some (told (start + 1 + i)) = λ i y e. (let one : start + suc i ≡ start + 1 + i = omega arith in subst (λ k. tell (row k y) ≡ Some (told k)) one (same (suc i) y e)) in
    (λ i. first i >>= λ one. each_numbered row tell told xs (start + 1) more i >>= λ others. Some (cons_option one others))

-- of each number the same is told
abbrev IsToldAs : {B : Type 0} → (ℤ → Option B) → (ℕ → Option B) → ℕ → Type 0
IsToldAs {B = B} tell told k = (x : B) × (tell (pos k) ≡ Some x) × (told k ≡ Some x)

each_told : {B : Type 0} (tell : ℤ → Option B) (told : ℕ → Option B) (ks : List ℕ) → AllByRecursion (IsToldAs tell told) ks → all_told tell (map pos ks) ≡ Some (filter_map told ks)
each_told tell told [] same = refl
each_told tell told (k ∷ ks) same =
    (λ i. same.0.1 i >>= λ one. each_told tell told ks same.1 i >>= λ others. Some (one ∷ others))
    ∙ ap (λ o. Some (cons_option o (filter_map told ks))) (sym same.0.2)

-- what passes a test
each_passing : {A : Type 0} (P : A → Type 0) (p : A → Bool) → ((x : A) → p x ≡ true → P x) → (xs : List A) → AllByRecursion P (filter p xs)
each_passing P p so [] = tt
each_passing P p so (x ∷ xs) =
    let rest = each_passing P p so xs in by_Bool (p x) (λ passes. rw passes (so x passes, rest)) (λ fails. rw fails rest)

-- the names of classes are names
all_named : (rows : List ClassRow) → AllByRecursion IsClassRow rows → AllByRecursion IsName (map (λ (c : ClassRow). c.name) rows)
all_named [] all = tt
all_named (c ∷ rows) all = (all.0.name, all_named rows all.1)

-- what is so of all is so of each
among : {A : Type 0} (P : A → Type 0) (xs : List A) (x : A) → AllByRecursion P xs → Has xs x → P x
among P [] x all in_xs = absurd in_xs
among P (y ∷ xs) x all (inl same) = subst P same all.0
among P (y ∷ xs) x all (inr more) = among P xs x all.1 more

module _ (h : History) (legal : IsLegal h) (ranged : AreInRange this_version (picture this_version h)) where
  abbrev t : Tables
  t = picture this_version h

  -- ---- numbers

  pub next_deposit : number_after (highest_deposit t) ≡ Some (length (deposits h) + 1)
  next_deposit = ap number_after (highest_deposit_is h legal ranged) ∙ next_at (deposits h)

  pub next_hold : number_after (highest_hold t) ≡ Some (length (holds h) + 1)
  next_hold = ap number_after (highest_hold_is h legal ranged) ∙ next_at (holds h)

  -- ---- a deposit that is there and kept

  -- where nothing refuses what is asked of it
  pub record IsKept (n : ℕ) : Type 0 where
    pub found : Date × Deposit
    pub there : deposit_numbered h n ≡ Some found
    pub kept : destruction_day h n ≡ None

  pub stored_due_row : (day : Date) (caller : List ℕ) (action : Action) (n : ℕ) → first_some (refusing.of_deposit (deposit_numbered h n) (refusing.kept_refusals h day caller action n)) ≡ None → IsKept n
  stored_due_row day caller action n free =
      by_Option (deposit_numbered h n) (λ none. absurd (let wrong = rw none at free in cc))
      (λ found there.
      let allowed = none_of (refusing.denial_at h day caller action found.1) _ (rw there at free) in
      record { found = found; there = there; kept = not_gone (destruction_day h n) (none_of (refusing.gone_refusal h n) _ allowed.1).0 })

  module _ (n : ℕ) (found : Date × Deposit) (there : deposit_numbered h n ≡ Some found) where
    row_ranged : IsDepositRow t (deposit_row h n found)
    row_ranged = found_all (IsDepositRow t) (rows.is_deposit (pos n)) t.deposits (deposit_row h n found) ranged.deposits (row_there h legal ranged n found there)

    named : has_names (deposit_row h n found) ≡ true
    named = λ i. row_ranged.accession i && (among IsName t.collections found.1.description.collection ranged.collections (contains_has t.collections found.1.description.collection row_ranged.collection) i && class_named i)
      where
        class_named : is_name found.1.description.class ≡ true
        class_named = among IsName (map (λ (c : ClassRow). c.name) t.classes) found.1.description.class (all_named t.classes ranged.classes) (contains_has (map (λ (c : ClassRow). c.name) t.classes) found.1.description.class row_ranged.class)

    counted : (most number : ℕ) → pos number ≤ℤ pos most → count_up_to most (pos number) ≡ Some number
    counted most number few = ap (λ b. if b then Some number else None) (between (pos 0) (pos most) (pos number) (omega (arith, signed_arith)) few)

    pub record_exact : record_by (deposit_row h n found) (due_row h n found) ≡ Some (record_of h n found)
    record_exact =
        (λ i. days_exact h legal ranged n found there i >>= λ days. count_up_to max_files (pos (payload_files found.1.bag)) >>= λ files. count_up_to (max_files * max_content) (pos (payload_bytes found.1.bag)) >>= λ bytes. due_of_number (due_number (due h found.1)) >>= λ due. (if has_names (deposit_row h n found) then Some (record { number = n; description = description_of (deposit_row h n found) days.closed; deposited = days.deposited; files = files; bytes = bytes; due = due }) else None))
        ∙ (λ i. counted max_files (payload_files found.1.bag) row_ranged.files.1 i >>= λ files. counted (max_files * max_content) (payload_bytes found.1.bag) row_ranged.bytes.1 i >>= λ bytes. due_exact h legal ranged n found there i >>= λ due. (if named i then Some (record { number = n; description = found.1.description; deposited = found.0; files = files; bytes = bytes; due = due }) else None))

    record_told : record_in t (deposit_row h n found) ≡ Some (answers.Record (record_of h n found))
    record_told = (λ i. kept_there h legal ranged n found there i >>= λ (kept : DueRow). record_by (deposit_row h n found) kept >>= λ told. Some (answers.Record told)) ∙ (λ i. record_exact i >>= λ told. Some (answers.Record told))

    -- its live holds
    holds_told : told_holds t n found.1.description.collection found.1.description.class ≡ Some (histories.told_holds h n found.1)
    holds_told =
        ap (λ b. if b then all_told (told_hold t) (rows.live_holds (pos n) found.1.description.collection found.1.description.class t) else None) (released_days h legal ranged n found.1.description.collection found.1.description.class)
        ∙ ap (all_told (told_hold t)) (live_told h n found.1 this_version)
        ∙ each_told (told_hold t) (histories.told_hold h) (live_holds h n found.1)
        (each_passing (IsToldAs (told_hold t) (histories.told_hold h)) (λ k. is_live h k && covers h k n found.1) (λ k live. told k (and_parts (is_live h k) (covers h k n found.1) live).1) (numbers (length (holds h))))
      where
        told : (k : ℕ) → covers h k n found.1 ≡ true → IsToldAs (told_hold t) (histories.told_hold h) k
        told k over =
            by_Option (hold_numbered h k) (λ none. absurd (let wrong = rw none at over in cc))
            (λ hold is. (
              live_hold k hold,
              (λ i. (hold_at h legal ranged k ∙ ap (option_map (hold_row h k)) is) i >>= λ row. hold_by row) ∙ hold_told_exact h legal ranged k hold is,
              ap (λ o. option_map_or (λ found. Some (live_hold k found)) o None) is,
            ))

    pub holds_exact : holds_in t n (deposit_row h n found) ≡ Some (answers.Holds (histories.told_holds h n found.1))
    holds_exact = λ i. holds_told i >>= λ told. Some (answers.Holds told)

    -- ---- whether it is listed

    module _ (visit : Visit) where
      abbrev role : List ℕ
      role = role_of (policy h) visit.caller

      allowed_exact : (action : Action) → is_allowed_for t role visit.day action found.1.description.collection found.1.description.class ≡ Some (is_none (refusing.denial_at h visit.day visit.caller action found.1))
      allowed_exact action = λ i. (decision_exact h legal ranged visit.day visit.caller action (Some found.1.description.collection) (Some found.1.description.class) i >>= λ decision. Some (refusing.refusal_in (denial_verdict decision))) >>= λ denied. Some (is_none denied)

      module _ (wanted : Wanted) where
        abbrev free : Bool
        free = is_none (refusing.denial_at h visit.day visit.caller acts.List found.1)

        -- by whether it is wanted, and the day on which it was destroyed
        abbrev listed_by : Bool → Option Date → Option (Option DepositRecord)
        listed_by wanted gone =
            (if wanted then is_shown_unless (option_map epoch_day gone) t role visit.day (deposit_row h n found) else Some false) >>= λ shown. told_if shown (record_by (deposit_row h n found) (due_row h n found))

        told_by : (is : Bool) (gone : Option Date) → IfSome (option_map epoch_day gone) IsDayNumber → listed_by is gone ≡ Some (if is_none gone then (if is && free then Some (record_of h n found) else None) else None)
        told_by false None day = refl
        told_by false (Some gone) day = refl
        told_by true (Some gone) day = ap (λ o. (o >>= λ destroyed. Some false) >>= λ shown. told_if shown (record_by (deposit_row h n found) (due_row h n found))) (day_back (epoch_day gone) gone refl day)
        told_by true None day = (λ i. allowed_exact acts.List i >>= λ shown. told_if shown (record_by (deposit_row h n found) (due_row h n found))) ∙ by free
          where
            by : (shown : Bool) → told_if shown (record_by (deposit_row h n found) (due_row h n found)) ≡ Some (if shown then Some (record_of h n found) else None)
            by true = ap (option_map Some) record_exact
            by false = refl

        shown : shown_record h visit wanted n ≡ (if is_none (destruction_day h n) then (if (is_selected wanted.collection found.1.description.collection && is_selected wanted.class found.1.description.class) && free then Some (record_of h n found) else None) else None)
        shown =
            ap (λ o. if is_none (destruction_day h n) then option_map_or (λ (d : Date × Deposit). if histories.is_listed h visit.day visit.caller wanted d.1 then Some (record_of h n d) else None) o None else None) there

        pub listed_exact : listed_record t role visit.day wanted (both h n found) ≡ Some (shown_record h visit wanted n)
        listed_exact =
            told_by (is_selected wanted.collection found.1.description.collection && is_selected wanted.class found.1.description.class) (destruction_day h n) row_ranged.gone ∙ ap Some (sym shown)

      -- ---- whether it is among those that are due

      abbrev may : Bool
      may = may_destroy h visit (disposable_row (both h n found))

      pub place_exact : disposable_told t role visit.day (disposable_row (both h n found)) ≡ Some (if may then Some n else None)
      place_exact = (λ i. due_exact h legal ranged n found there i >>= λ due. allowed_exact acts.Dispose i >>= λ allowed. told_if allowed (Some n)) ∙ by may
        where
          by : (b : Bool) → told_if b (Some n) ≡ Some (if b then Some n else None)
          by true = refl
          by false = refl

    -- ---- its files

    module _ (kept : destruction_day h n ≡ None) (is : IsBag found.1.bag) where
      files_back : (files : List File) → map file_in (map (file_row n) files) ≡ files
      files_back [] = refl
      files_back (f ∷ files) = ap (λ (fs : List File). f ∷ fs) (files_back files)

      pub stored : stored_files n t ≡ found.1.bag
      stored = ap (λ rs. map file_in (sort_by path_cmp rs)) (files_at h n found there kept) ∙ ap (map file_in) (in_path_order n [] found.1.bag is.ascending) ∙ files_back found.1.bag

  -- ---- lists

  listed : (visit : Visit) (wanted : Wanted) → listed_records t visit wanted ≡ Some (histories.listed_records h visit.day visit.caller wanted)
  listed visit wanted =
      (λ i. role_exact h legal ranged visit.caller i >>= λ role. things_told (listed_record t role visit.day wanted) (rows_beside h i))
      ∙ each_numbered (both h) (listed_record t (role_of (policy h) visit.caller) visit.day wanted) (shown_record h visit wanted) (deposits h) 1 at
      ∙ ap Some (told_of_those (λ n. is_none (destruction_day h n)) (histories.listed_record h visit.day visit.caller wanted) (numbers (length (deposits h))))
    where
      at : (i : ℕ) (x : Date × Deposit) → slice_get (deposits h) i ≡ Some x → listed_record t (role_of (policy h) visit.caller) visit.day wanted (both h (1 + i) x) ≡ Some (shown_record h visit wanted (1 + i))
      at i x e = let one : suc i ≡ 1 + i = omega arith in listed_exact (1 + i) x (subst (λ k. deposit_numbered h k ≡ Some x) one e) visit wanted

  -- a row of which this is told, allowed or not
  record IsDisposableTold (visit : Visit) (pair : DepositRow × DueRow) : Type 0 where
    number : ℕ
    is : pair.0.number ≡ pos number
    told : disposable_told t (role_of (policy h) visit.caller) visit.day (disposable_row pair) ≡ Some (if may_destroy h visit (disposable_row pair) then Some number else None)

  module _ (visit : Visit) where
    abbrev tell : DisposableRow → Option (Option ℕ)
    tell = disposable_told t (role_of (policy h) visit.caller) visit.day

    places : (xs : List (Date × Deposit)) (start : ℕ) → ((i : ℕ) (x : Date × Deposit) → slice_get xs i ≡ Some x → IsDisposableTold visit (both h (start + i) x)) → AllByRecursion (IsDisposableTold visit) (rows_from (both h) start xs)
    places [] start at = tt
    places (x ∷ xs) start at =
        let none : start + 0 ≡ start = omega arith in
        (subst (λ k. IsDisposableTold visit (both h k x)) none (at 0 x refl), places xs (start + 1) (λ i y e. let one : start + suc i ≡ start + 1 + i = omega arith in subst (λ k. IsDisposableTold visit (both h k y)) one (at (suc i) y e)))

    record AreTold (places : List DisposableRow) : Type 0 where
      numbers : List ℕ
      told : things_told tell places ≡ Some numbers
      are : map pos numbers ≡ map (λ (p : DisposableRow). p.number) (filter (may_destroy h visit) places)

    all_of : (p : DepositRow × DueRow → Bool) (pairs : List (DepositRow × DueRow)) → AllByRecursion (IsDisposableTold visit) pairs → AreTold (map disposable_row (filter p pairs))
    all_of p [] all = record { numbers = []; told = refl; are = refl }
    all_of p (x ∷ xs) all = by_Bool (p x) (λ passes. rw passes (with_it (may_destroy h visit (disposable_row x)) refl (all_of p xs all.1))) (λ fails. rw fails (all_of p xs all.1))
      where
        with_it : (may : Bool) → may_destroy h visit (disposable_row x) ≡ may → AreTold (map disposable_row (filter p xs)) → AreTold (disposable_row x ∷ map disposable_row (filter p xs))
        with_it true is rest = record {
          numbers = all.0.number ∷ rest.numbers;
          told = (λ i. (all.0.told ∙ ap (λ b. Some (if b then Some all.0.number else None)) is) i >>= λ one. rest.told i >>= λ others. Some (cons_option one others));
          are = (λ i. sym all.0.is i ∷ rest.are i) ∙ ap (λ b. map (λ (p : DisposableRow). p.number) (if b then disposable_row x ∷ filter (may_destroy h visit) (map disposable_row (filter p xs)) else filter (may_destroy h visit) (map disposable_row (filter p xs)))) (sym is);
        }
        with_it false is rest = record {
          numbers = rest.numbers;
          told = (λ i. (all.0.told ∙ ap (λ b. Some (if b then Some all.0.number else None)) is) i >>= λ one. rest.told i >>= λ others. Some (cons_option one others));
          are = rest.are ∙ ap (λ b. map (λ (p : DisposableRow). p.number) (if b then disposable_row x ∷ filter (may_destroy h visit) (map disposable_row (filter p xs)) else filter (may_destroy h visit) (map disposable_row (filter p xs)))) (sym is);
        }

    pub due_listed : due_list t visit ≡ Some (histories.due_list h visit.day visit.caller)
    due_listed =
        (λ i. role_exact h legal ranged visit.caller i >>= λ role. things_told (disposable_told t role visit.day) (disposable_rows (epoch_day visit.day) t))
        ∙ all.told ∙ ap Some (due_list_is h visit all.numbers all.are)
      where
        at : (i : ℕ) (x : Date × Deposit) → slice_get (deposits h) i ≡ Some x → IsDisposableTold visit (both h (1 + i) x)
        at i x e = let one : suc i ≡ 1 + i = omega arith in record { number = 1 + i; is = refl; told = place_exact (1 + i) x (subst (λ k. deposit_numbered h k ≡ Some x) one e) visit }

        all : AreTold (disposable_rows (epoch_day visit.day) t)
        all = subst (λ ps. AreTold (map disposable_row (filter (is_disposable (epoch_day visit.day)) ps))) (sym (rows_beside h)) (all_of (is_disposable (epoch_day visit.day)) (rows_from (both h) 1 (deposits h)) (places (deposits h) 1 at))

  -- ---- files

  module _ (sound : (n : ℕ) (found : Date × Deposit) → deposit_numbered h n ≡ Some found → IsSound found.1.bag) (faultless : (files : List File) → IsBag files → list_fault files ≡ None) where
    bag_of : {n : ℕ} (it : IsKept n) → IsBag it.found.1.bag
    bag_of {n = n} it = (sound n it.found it.there).bag

    stored_of : {n : ℕ} (it : IsKept n) → stored_files n t ≡ it.found.1.bag
    stored_of {n = n} it = stored n it.found it.there it.kept (bag_of it)

    bag_told : (n : ℕ) (it : IsKept n) → bag_in t n ≡ Some (answers.Bag (set_text it.found.1.bag))
    bag_told n it =
        ap (λ files. if is_none (list_fault files) then Some (answers.Bag (set_text files)) else None) (stored_of it)
        ∙ ap (λ o. if is_none o then Some (answers.Bag (set_text it.found.1.bag)) else None) (faultless it.found.1.bag (bag_of it))

    audit_told : (n : ℕ) (it : IsKept n) → audit_of (stored_files n t) ≡ histories.audit_report (report_on it.found.1.bag)
    audit_told n it = ap audit_of (stored_of it) ∙ ap (λ o. audit_unless o it.found.1.bag) (faultless it.found.1.bag (bag_of it))

    -- one file
    first_of_both : (p q : FileRow → Bool) (rows : List FileRow) → find (λ f. p f && q f) rows ≡ find q (filter p rows)
    first_of_both p q [] = refl
    first_of_both p q (r ∷ rows) =
        let rest = first_of_both p q rows in by_Bool (p r) (λ passes. rw passes (ap (cond (q r) (Some r)) rest)) (λ fails. rw fails rest)

    content_of_row : (n : ℕ) (path : List ℕ) (files : List File) → option_map (λ (f : FileRow). f.content) (find (λ f. bytes_eq f.path path) (map (file_row n) files)) ≡ content_at files path
    content_of_row n path [] = refl
    content_of_row n path (f ∷ files) = by_Bool (bytes_eq f.path path) (λ same. rw same refl) (λ other. rw other (content_of_row n path files))

    content_told : (n : ℕ) (it : IsKept n) (path : List ℕ) → content_stored n path t ≡ content_at it.found.1.bag path
    content_told n it path =
        by_Bool (is_good path)
        (λ good. rw good (ap (option_map (λ (f : FileRow). f.content)) (first_of_both (is_file_of (pos n)) (λ f. bytes_eq f.path path) (file_rows h) ∙ ap (find (λ f. bytes_eq f.path path)) (files_at h n it.found it.there it.kept))
        ∙ content_of_row n path it.found.1.bag))
        (λ bad. rw bad (no_file_there it.found.1.bag (bag_of it).each path bad))

    pub files_exact : (visit : Visit) (n : ℕ) → refusal_before h visit.day visit.caller (DownloadBag n) ≡ None → HasBagOf h n t
    files_exact visit n free =
        let it = stored_due_row visit.day visit.caller acts.Download n free in
        record { found = it.found; there = it.there; files = stored_of it; contents = content_told n it }

    -- ---- any request

    -- an answer that nothing refuses
    unless : (stands : Option Refusal) (answer : Answer) → stands ≡ None → Some answer ≡ Some (histories.answer_unless stands answer)
    unless stands answer free = ap (λ o. Some (histories.answer_unless o answer)) (sym free)

    -- of a deposit that is there
    there_told : {n : ℕ} (it : IsKept n) (tell : Date × Deposit → Answer) → Some (tell it.found) ≡ Some (told_of (deposit_numbered h n) tell)
    there_told it tell = ap (λ o. Some (told_of o tell)) (sym it.there)

    -- that there is no file at a path is a refusal, and else its content is answered
    file_unless : (day : Date) (caller : List ℕ) (n : ℕ) (path : List ℕ) (it : IsKept n) → first_some (refusing.of_deposit (deposit_numbered h n) (refusing.kept_refusals h day caller acts.Download n)) ≡ None
        → Some (file_answer (content_at it.found.1.bag path)) ≡ Some (histories.answer_unless (first_some (refusing.of_deposit (deposit_numbered h n) (refusing.file_refusals h day caller n path))) (told_of (deposit_numbered h n) (λ found. file_answer (content_at found.1.bag path))))
    file_unless day caller n path it free =
        by (refusing.denial_at h day caller acts.Download it.found.1) (refusing.gone_refusal h n) (content_at it.found.1.bag path) (subst (λ o. first_some (refusing.of_deposit o (refusing.kept_refusals h day caller acts.Download n)) ≡ None) it.there free)
        ∙ ap (λ o. Some (histories.answer_unless (first_some (refusing.of_deposit o (refusing.file_refusals h day caller n path))) (told_of o (λ found. file_answer (content_at found.1.bag path))))) (sym it.there)
      where
        by : (denied destroyed : Option Refusal) (content : Option (List ℕ)) → first_some (denied ∷ destroyed ∷ []) ≡ None
            → Some (file_answer content) ≡ Some (histories.answer_unless (first_some (denied ∷ destroyed ∷ answer_if (is_none content) NoFile ∷ [])) (file_answer content))
        by (Some why) destroyed content e = absurd cc
        by None (Some why) content e = absurd cc
        by None None None e = refl
        by None None (Some bytes) e = refl

    pub answer_exact : (visit : Visit) (request : Request) → refusal_before h visit.day visit.caller request ≡ None → allowed_answer t visit request ≡ Some (histories.answer h visit.day visit.caller request)
    answer_exact visit (MakeDeposit description bag) free = ap (option_map answers.Deposited) next_deposit ∙ unless _ _ free
    answer_exact visit (ListDeposits collection class) free = ap (option_map answers.List) (listed visit (record { collection = collection; class = class })) ∙ unless _ _ free
    answer_exact visit (Record n) free =
        let it = stored_due_row visit.day visit.caller acts.Record n free in
        (λ i. row_there h legal ranged n it.found it.there i >>= record_in t) ∙ record_told n it.found it.there ∙ there_told it (λ found. answers.Record (record_of h n found)) ∙ unless _ _ free
    answer_exact visit (Holds n) free =
        let it = stored_due_row visit.day visit.caller acts.Holds n free in
        (λ i. row_there h legal ranged n it.found it.there i >>= holds_in t n) ∙ holds_exact n it.found it.there ∙ there_told it (λ found. answers.Holds (histories.told_holds h n found.1)) ∙ unless _ _ free
    answer_exact visit (DownloadBag n) free =
        let it = stored_due_row visit.day visit.caller acts.Download n free in
        bag_told n it ∙ there_told it (λ found. answers.Bag (set_text found.1.bag)) ∙ unless _ _ free
    answer_exact visit (DownloadFile n path) free =
        let it = stored_due_row visit.day visit.caller acts.Download n free in
        ap (λ content. Some (file_answer content)) (content_told n it path.now) ∙ file_unless visit.day visit.caller n path.now it free
    answer_exact visit (Audit n) free =
        let it = stored_due_row visit.day visit.caller acts.Audit n free in
        ap (λ report. Some (answers.Audit n report)) (audit_told n it) ∙ there_told it (λ found. answers.Audit n (histories.audit_report (report_on found.1.bag))) ∙ unless _ _ free
    answer_exact visit (HoldDeposit n matter) free = ap (option_map answers.HoldPlaced) next_hold ∙ unless _ _ free
    answer_exact visit (HoldCollection name matter) free = ap (option_map answers.HoldPlaced) next_hold ∙ unless _ _ free
    answer_exact visit (HoldClass name matter) free = ap (option_map answers.HoldPlaced) next_hold ∙ unless _ _ free
    answer_exact visit DueList free = ap (option_map (answers.DueList visit.day)) (due_listed visit) ∙ unless _ _ free
    answer_exact visit _ free = unless _ _ free
