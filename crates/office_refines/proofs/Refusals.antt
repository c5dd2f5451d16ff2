-- The refusals that the rows of a legal history tell are those of the history, in the same order.
use Rattle.office_refines.proofs.FirstLemmas.{◌≡◌, ℕ, ◌+◌, pos, Bool, not, List, [], ◌∷◌, ◌++◌, length, Option, Some, None, map, is_none, is_some, option_map, refl, sym, ap, ◌∙◌, cond, if◌then◌else◌, nat_le, Date, epoch_day, ◌>>=◌, answer_if, first_some, gone_verdict, verdict_of, Action, Refusal, Full, Gone, NoSuch, Released, Request, DefineClass, DefineCollection, Record, Holds, DownloadBag, DownloadFile, Audit, HoldDeposit, HoldCollection, HoldClass, Release, Dispose, DueList, ClassRow, DepositRow, HoldRow, Tables, class_named, this_version, History, Deposit, Hold, accession_of, deposits, destruction_day, hold_numbered, holds, release_day, Target, OnDeposit, OnCollection, OnClass, IsThere, class_rows, deposit_row, held_class, held_collection, held_deposit, hold_row, picture, HasTarget, placed_holds, refusal_in, refusal_of, AreInRange, IsLegal, day_numbered, if_any, Visit, denial_in, target_named, target_of, days_back, disposal_facts, disposal_refusal, full_after, full_of_deposits, full_of_holds, highest_deposit, highest_hold, hold_refusals, no_such_class, no_such_collection, number_after, of_hold, refusals, refusals_before_the_bag, refusals_of_the_bag, release_denial, release_denial_on, released_refusal, taken_refusal, all_numbered, refusal_before, deposit_numbered, has_class, first_told, kept_refusals, refusal, accession_told, deposit_rows_are, deposit_told, hold_rows_are, is_nil, last_is, by_Option}
use Rattle.office_core.specs.declared.request.Request.TheVariants.{Deposit as MakeDeposit, List as ListDeposits}
use Rattle.office_by_rows.specs.Refusals.{gone_refusal, of_deposit}
use Rattle.office_core.specs.Descriptions.{Description}
use Rattle.office_core.specs.declared.action.Action.TheVariants as acts
use Rattle.office_core.specs.declared.refusal.Subject.TheVariants as subjects
use Rattle.office_rows.specs.Rows as rows
use Rattle.office_history.specs.Refusals as histories
use Rattle.office_history.proofs.VerdictLemmas.{disposal_verdict}
use Rattle.office_refines.proofs.ClassesTold.{years_of_row}
use Rattle.office_refines.proofs.CollectionsTold.{collection_there}
use Rattle.office_refines.proofs.Readings.{days_exact, denial_exact, facts_exact, hold_at, hold_ranged, hold_told_exact, role_exact}

-- ---- the first that applies

pub first_exact : (xs : List (Option Refusal)) → first_told (map Some xs) ≡ Some (first_some xs)
first_exact [] = refl
first_exact (None ∷ xs) = first_exact xs
first_exact (Some why ∷ xs) = refl

-- ---- the highest number of rows that are numbered from 1

pub next_at : {A : Type 0} (xs : List A) → number_after (cond (is_nil xs) None (Some (pos (length xs)))) ≡ Some (length xs + 1)
next_at [] = refl
next_at (x ∷ xs) = refl

full_at : {A : Type 0} (most : ℕ) (xs : List A) → full_after (pos most) (cond (is_nil xs) None (Some (pos (length xs)))) ≡ Some (answer_if (nat_le most (length xs)) Full)
full_at most [] = refl
full_at most (x ∷ xs) = refl

module _ (h : History) (legal : IsLegal h) (ranged : AreInRange this_version (picture this_version h)) where
  abbrev t : Tables
  t = picture this_version h

  -- ---- one refusal each

  pub class_exact : (name : List ℕ) → is_some (class_named name t.classes) ≡ has_class h name
  class_exact name = by_Option (class_named name (class_rows h)) (λ none. rw none (ap is_some (rw none at (years_of_row h name)))) (λ c is. rw is (ap is_some (rw is at (years_of_row h name))))

  no_collection : (name : List ℕ) → no_such_collection t name ≡ histories.no_such_collection h name
  no_collection name = ap (λ b. answer_if (not b) (NoSuch subjects.Collection)) (collection_there h name)

  no_class : (name : List ℕ) → no_such_class t name ≡ histories.no_such_class h name
  no_class name = by (class_named name t.classes) (has_class h name) (class_exact name)
    where
      by : (o : Option ClassRow) (b : Bool) → is_some o ≡ b → answer_if (is_none o) (NoSuch subjects.Class) ≡ answer_if (not b) (NoSuch subjects.Class)
      by None b e = ap (λ b. answer_if (not b) (NoSuch subjects.Class)) e
      by (Some c) b e = ap (λ b. answer_if (not b) (NoSuch subjects.Class)) e

  taken_exact : (accession : List ℕ) → taken_refusal t accession ≡ Some (histories.taken_refusal h accession)
  taken_exact accession = rw (accession_told h accession) (by_Option (accession_of h accession) (λ none. rw none refl) (λ n is. rw is refl))

  pub highest_deposit_is : highest_deposit t ≡ cond (is_nil (deposits h)) None (Some (pos (length (deposits h))))
  highest_deposit_is = ap (rows.last_number (λ (row : DepositRow). row.number)) (deposit_rows_are h) ∙ last_is (deposit_row h) (λ row. row.number) (λ m x. refl) (deposits h)

  pub highest_hold_is : highest_hold t ≡ cond (is_nil (holds h)) None (Some (pos (length (holds h))))
  highest_hold_is = ap (rows.last_number (λ (row : HoldRow). row.number)) (hold_rows_are h) ∙ last_is (hold_row h) (λ row. row.number) (λ m x. refl) (holds h)

  deposits_full : full_of_deposits t ≡ Some (histories.full_of_deposits h)
  deposits_full = ap (full_after (pos h.max_deposits)) highest_deposit_is ∙ full_at h.max_deposits (deposits h)

  holds_full : full_of_holds t ≡ Some (histories.full_of_holds h)
  holds_full = ap (full_after (pos h.max_holds)) highest_hold_is ∙ full_at h.max_holds (holds h)

  -- ---- of a deposit that is there

  gone_exact : (n : ℕ) (found : Date × Deposit) → deposit_numbered h n ≡ Some found → gone_refusal (deposit_row h n found) ≡ Some (histories.gone_refusal h n)
  gone_exact n found there = (λ i. days_exact h legal ranged n found there i >>= λ days. Some (option_map Gone days.gone)) ∙ ap Some (by (destruction_day h n))
    where
      by : (o : Option Date) → option_map Gone o ≡ refusal_in (gone_verdict o)
      by None = refl
      by (Some day) = refl

  -- the refusals of its row, whichever they are, where there is one
  of_row : (n : ℕ) (these : DepositRow → List (Option (Option Refusal))) (others : Deposit → List (Option Refusal)) → ((found : Date × Deposit) → deposit_numbered h n ≡ Some found → these (deposit_row h n found) ≡ map Some (others found.1))
      → of_deposit (rows.deposit_numbered (pos n) t.deposits) these ≡ map Some (histories.of_deposit (deposit_numbered h n) others)
  of_row n these others same = rw (deposit_told h n) (by_Option (deposit_numbered h n) (λ none. rw none refl) (λ found there. rw there (same found there)))

  kept_exact : (visit : Visit) (action : Action) (n : ℕ) → of_deposit (rows.deposit_numbered (pos n) t.deposits) (kept_refusals t visit action) ≡ map Some (histories.of_deposit (deposit_numbered h n) (histories.kept_refusals h visit.day visit.caller action n))
  kept_exact visit action n = of_row n (kept_refusals t visit action) (histories.kept_refusals h visit.day visit.caller action n) (λ found there. λ i.
      denial_exact h legal ranged visit action (Some found.1.description.collection) (Some found.1.description.class) i ∷ gone_exact n found there i ∷ [])

  -- where there is no such deposit, the rows list after that refusal that the office is full, and the history lists no more
  hold_exact : (visit : Visit) (n : ℕ) → first_told (hold_refusals t visit (OnDeposit n)) ≡ Some (first_some (histories.of_deposit (deposit_numbered h n) (histories.hold_refusals h visit.day visit.caller n)))
  hold_exact visit n = ap (λ these. first_told (these ++ full_of_holds t ∷ [])) (kept_exact visit acts.Hold n) ∙ by (deposit_numbered h n)
    where
      by : (o : Option (Date × Deposit)) → first_told (map Some (histories.of_deposit o (histories.kept_refusals h visit.day visit.caller acts.Hold n)) ++ full_of_holds t ∷ []) ≡ Some (first_some (histories.of_deposit o (histories.hold_refusals h visit.day visit.caller n)))
      by None = refl
      by (Some found) = ap (λ full. first_told (map Some (histories.kept_refusals h visit.day visit.caller acts.Hold n found.1) ++ full ∷ [])) holds_full ∙ first_exact (histories.hold_refusals h visit.day visit.caller n found.1)

  -- ---- a release

  pub target_exact : (k : ℕ) (found : Date × Hold) → target_of (hold_row h k found) ≡ Some found.1.target
  target_exact k found = by found.1.target
    where
      by : (target : Target) → target_named (held_deposit target) (held_collection target) (held_class target) ≡ Some target
      by (OnDeposit n) = refl
      by _ = refl

  -- what a hold of a legal history names is there
  denial_on_exact : (visit : Visit) (target : Target) → IsThere h target → release_denial_on t visit target ≡ Some (histories.release_denial h visit.day visit.caller target)
  denial_on_exact visit (OnDeposit n) there =
      rw (deposit_told h n) (by_Option (deposit_numbered h n) (λ none. absurd (let wrong = rw none at there in cc))
      (λ found is. rw is (denial_exact h legal ranged visit acts.Release (Some found.1.description.collection) (Some found.1.description.class))))
  denial_on_exact visit (OnCollection name) there =
      ap (λ b. if b then denial_in t visit acts.Release (Some name) None else None) (collection_there h name ∙ there)
      ∙ denial_exact h legal ranged visit acts.Release (Some name) None
  denial_on_exact visit (OnClass name) there =
      ap (λ b. if b then denial_in t visit acts.Release None (Some name) else None) (class_exact name ∙ there)
      ∙ denial_exact h legal ranged visit acts.Release None (Some name)

  release_exact : (visit : Visit) (k : ℕ) → of_hold (rows.hold_numbered (pos k) t.holds) (λ row. release_denial t visit row ∷ released_refusal row ∷ []) ≡ map Some (histories.of_hold (hold_numbered h k) (histories.release_refusals h visit.day visit.caller k))
  release_exact visit k = ap (λ o. of_hold o (λ row. release_denial t visit row ∷ released_refusal row ∷ [])) (hold_at h legal ranged k) ∙ by (hold_numbered h k) refl
    where
      released : (k : ℕ) (found : Date × Hold) → hold_numbered h k ≡ Some found → released_refusal (hold_row h k found) ≡ Some (histories.released_refusal h k)
      released k found there =
          (λ i. hold_told_exact h legal ranged k found there i >>= λ told. if_any day_numbered (option_map epoch_day (release_day h k)) >>= λ day. Some (option_map Released day))
          ∙ (λ i. days_back (option_map epoch_day (release_day h k)) (release_day h k) refl (hold_ranged h legal ranged k found there).released i >>= λ day. Some (option_map Released day))

      by : (o : Option (Date × Hold)) → hold_numbered h k ≡ o → of_hold (option_map (hold_row h k) o) (λ row. release_denial t visit row ∷ released_refusal row ∷ []) ≡ map Some (histories.of_hold o (histories.release_refusals h visit.day visit.caller k))
      by None there = refl
      by (Some found) there = λ i.
          ((ap (λ o. o >>= release_denial_on t visit) (target_exact k found) ∙ denial_on_exact visit found.1.target (all_numbered (HasTarget h) (holds h) k found (placed_holds h legal) there)) i)
          ∷ released k found there i ∷ []

  -- ---- a disposal

  disposal_exact : (visit : Visit) (n : ℕ) (found : Date × Deposit) → deposit_numbered h n ≡ Some found → disposal_refusal t visit n (deposit_row h n found) ≡ Some (histories.refusal h visit.day visit.caller (Dispose n))
  disposal_exact visit n found there =
      (λ i. role_exact h legal ranged visit.caller i >>= λ role. disposal_facts t role visit.day n (deposit_row h n found) >>= λ facts. Some (refusal_of (verdict_of facts visit.day)))
      ∙ (λ i. facts_exact h legal ranged n found there visit i >>= λ facts. Some (refusal_of (verdict_of facts visit.day)))
      ∙ ap Some (sym (disposal_verdict h visit.day visit.caller n found there))

  disposals : (visit : Visit) (n : ℕ) → first_told (of_deposit (rows.deposit_numbered (pos n) t.deposits) (λ row. disposal_refusal t visit n row ∷ [])) ≡ Some (histories.refusal h visit.day visit.caller (Dispose n))
  disposals visit n = ap (λ o. first_told (of_deposit o (λ row. disposal_refusal t visit n row ∷ []))) (deposit_told h n) ∙ by (deposit_numbered h n) refl
    where
      alone : (o : Option (Option Refusal)) (why : Option Refusal) → o ≡ Some why → first_told (o ∷ []) ≡ Some why
      alone o None e = ap (λ o. first_told (o ∷ [])) e
      alone o (Some why) e = ap (λ o. first_told (o ∷ [])) e

      by : (o : Option (Date × Deposit)) → deposit_numbered h n ≡ o → first_told (of_deposit (option_map (deposit_row h n) o) (λ row. disposal_refusal t visit n row ∷ [])) ≡ Some (histories.refusal h visit.day visit.caller (Dispose n))
      by None there = ap (λ o. Some (first_some (histories.of_deposit o (histories.disposal_refusals h visit.day visit.caller n)))) (sym there)
      by (Some found) there = alone (disposal_refusal t visit n (deposit_row h n found)) (histories.refusal h visit.day visit.caller (Dispose n)) (disposal_exact visit n found there)

  -- ---- any request

  bag_exact : (visit : Visit) (description : Description) (bag : List ℕ) → refusals_before_the_bag t visit description ++ refusals_of_the_bag t bag ≡ map Some (histories.filing_refusals h visit.day visit.caller description ++ histories.bag_refusals h visit.day description bag)
  bag_exact visit description bag = λ i.
      Some (no_collection description.collection i) ∷ Some (no_class description.class i) ∷ denial_exact h legal ranged visit acts.Deposit (Some description.collection) (Some description.class) i
      ∷ taken_exact description.accession i ∷ Some (histories.closed_ahead_refusal visit.day description.closed) ∷ Some (histories.bad_bag bag) ∷ deposits_full i ∷ []

  -- the refusals of a request, but for a file's last, which is of its bag, and a disposal's, which are told at once
  list_exact : (visit : Visit) (request : Request) (others : List (Option Refusal)) → refusals t visit request ≡ map Some others → refusal t visit request ≡ Some (first_some others)
  list_exact visit request others same = ap first_told same ∙ first_exact others

  pub refusal_exact : (visit : Visit) (request : Request) → refusal t visit request ≡ Some (refusal_before h visit.day visit.caller request)
  refusal_exact visit (DefineClass name years) = list_exact visit (DefineClass name years) (histories.refusals h visit.day visit.caller (DefineClass name years)) (λ i. denial_exact h legal ranged visit acts.Class None (Some name) i ∷ [])
  refusal_exact visit (DefineCollection name) = list_exact visit (DefineCollection name) (histories.refusals h visit.day visit.caller (DefineCollection name)) (λ i. denial_exact h legal ranged visit acts.Collection (Some name) None i ∷ [])
  refusal_exact visit (MakeDeposit description bag) = list_exact visit (MakeDeposit description bag) (histories.refusals h visit.day visit.caller (MakeDeposit description bag)) (bag_exact visit description bag.now)
  refusal_exact visit (ListDeposits collection class) = refl
  refusal_exact visit (Record n) = list_exact visit (Record n) (histories.refusals h visit.day visit.caller (Record n)) (kept_exact visit acts.Record n)
  refusal_exact visit (Holds n) = list_exact visit (Holds n) (histories.refusals h visit.day visit.caller (Holds n)) (kept_exact visit acts.Holds n)
  refusal_exact visit (DownloadBag n) = list_exact visit (DownloadBag n) (histories.refusals h visit.day visit.caller (DownloadBag n)) (kept_exact visit acts.Download n)
  refusal_exact visit (DownloadFile n path) = list_exact visit (DownloadFile n path) (histories.refusals h visit.day visit.caller (DownloadBag n)) (kept_exact visit acts.Download n)
  refusal_exact visit (Audit n) = list_exact visit (Audit n) (histories.refusals h visit.day visit.caller (Audit n)) (kept_exact visit acts.Audit n)
  refusal_exact visit (HoldDeposit n matter) = hold_exact visit n
  refusal_exact visit (HoldCollection name matter) = list_exact visit (HoldCollection name matter) (histories.refusals h visit.day visit.caller (HoldCollection name matter)) (λ i. Some (no_collection name i) ∷ denial_exact h legal ranged visit acts.Hold (Some name) None i ∷ holds_full i ∷ [])
  refusal_exact visit (HoldClass name matter) = list_exact visit (HoldClass name matter) (histories.refusals h visit.day visit.caller (HoldClass name matter)) (λ i. Some (no_class name i) ∷ denial_exact h legal ranged visit acts.Hold None (Some name) i ∷ holds_full i ∷ [])
  refusal_exact visit (Release k) = list_exact visit (Release k) (histories.refusals h visit.day visit.caller (Release k)) (release_exact visit k)
  refusal_exact visit (Dispose n) = disposals visit n
  refusal_exact visit DueList = refl
