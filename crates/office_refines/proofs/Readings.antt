-- What the rows of a legal history come to, forwards: since they are in their ranges, each is read, and what is read is the history's.
use Rattle.office_refines.proofs.FirstLemmas.{◌≡◌, ℕ, ◌+◌, ◌<◌, ◌≤◌, ℤ, pos, Bool, true, List, [], ◌∷◌, length, Option, Some, None, ◌≤ℤ◌, ◌&&◌, IfSome, filter, find, map, slice_get, option_map, refl, sym, ap, subst, ◌∙◌, arith, AllByRecursion, and_parts, same_Some, bytes_eq-Decides, Date, epoch_day, action_text, signed_arith, ◌>>=◌, answer_if, IsName, role_of, denial_verdict, Action, matching_rule, CallerRow, OfficeRow, RuleRow, Tables, caller_named, due_numbered, is_caller, this_version, History, Deposit, Hold, Target, OnDeposit, covers, destruction_day, due, hold_numbered, holds, is_live, least_hold, live_holds, policy, numbers, live_hold, scope_of, deposit_row, due_row, held_class, held_collection, held_deposit, hold_row, picture, deciding_rule, deciding_rule_at, denial, facts_of, refusal_in, AreInRange, AreNumbered, IsCallerRow, IsDepositRow, IsDueRow, IsHoldRow, IsRuleRow, IsLegal, legal_policy, due_of_number, if_any, Days, Visit, are_released_on_days, counted_hold_in, days_of, decision_by, decision_for, denial_in, hold_by, or_empty, role_in, disposal_facts, day_back, days_back, due_back, between, counted_read, days_read, decision_is, facts_told, least_read, place_and_effect, rule_and_effect, deposit_numbered, due_number, effect_is, on_days, role_is, rule_is, deposit_told, due_told, hold_rows_are, live_told, found_at, same_count, was_placed, by_Bool, by_Option}
use Rattle.office_by_rows.specs.Asking.{scope_of as scope_in}
use Rattle.office_core.specs.declared.action.Action.TheVariants as acts
use Rattle.office_core.specs.declared.rule.Decision.{Decision}
use Rattle.office_core.proofs.OptionLemmas.{find_some}
use Rattle.office_rows.specs.Rows as rows
use Rattle.office_refines.proofs.PolicyTold.{role_told}
use Rattle.office_refines.proofs.RulesTold.{rule_told}

-- what is so of all is so of what is found
pub found_all : {A : Type 0} (P : A → Type 0) (p : A → Bool) (xs : List A) (x : A) → AllByRecursion P xs → find p xs ≡ Some x → P x
found_all P p [] x all e = absurd cc
found_all P p (y ∷ xs) x all e = by_Bool (p y) (λ hit. subst P (same_Some _ _ (rw hit at e)) all.0) (λ miss. found_all P p xs x all.1 (rw miss at e))

-- the number of a row that is found
numbered_at : {A : Type 0} (number : A → ℤ) (p : A → Bool) (n : ℕ) (xs : List A) (x : A) → AreNumbered number n xs → find p xs ≡ Some x → (m : ℕ) × (number x ≡ pos m) × (n ≤ m) × (m < n + length xs)
numbered_at number p n [] x all e = absurd cc
numbered_at number p n (y ∷ xs) x all e =
    by_Bool (p y) (λ hit. (n, ap number (sym (same_Some _ _ (rw hit at e))) ∙ all.0, omega arith, omega arith))
    (λ miss. let it = numbered_at number p (n + 1) xs x all.1 (rw miss at e) in (it.0, it.1, omega (arith, it.2), omega (arith, it.3)))

-- the first that is kept passes
first_kept : {A : Type 0} (p : A → Bool) (xs : List A) (x : A) (more : List A) → filter p xs ≡ x ∷ more → p x ≡ true
first_kept p [] x more e = absurd cc
first_kept p (y ∷ xs) x more e =
    by_Bool (p y) (λ passes. let kept = rw passes at e in let same : y ≡ x = cc in subst (λ z. p z ≡ true) same passes) (λ fails. first_kept p xs x more (rw fails at e))

module _ (h : History) (legal : IsLegal h) (ranged : AreInRange this_version (picture this_version h)) where
  abbrev t : Tables
  t = picture this_version h

  pub role_exact : (caller : List ℕ) → role_in t caller ≡ Some (role_of (policy h) caller)
  role_exact caller = role_is caller (option_map (λ (c : CallerRow). c.role) (caller_named caller t.callers)) named ∙ ap Some (role_told caller (policy h).callers)
    where
      named : IfSome (option_map (λ (c : CallerRow). c.role) (caller_named caller t.callers)) (λ role. IsName caller × IsName role)
      named = by_Option (caller_named caller t.callers) (λ none. rw none tt) (λ row is.
          let it = found_all IsCallerRow (is_caller caller) t.callers row ranged.callers is in
          rw is (subst IsName ((bytes_eq-Decides row.name caller).0 (find_some (is_caller caller) t.callers row is)) it.name, it.role))

  pub decision_exact : (day : Date) (caller : List ℕ) (action : Action) (collection class : Option (List ℕ)) → decision_for t (role_of (policy h) caller) day action collection class ≡ Some (deciding_rule h day caller action collection class)
  decision_exact day caller action collection class =
      by (matching_rule (role_of (policy h) caller) (action_text action) (or_empty collection) (or_empty class) (epoch_day day) t.rules) refl (deciding_rule h day caller action collection class)
      (rule_told (policy h) (record { role = role_of (policy h) caller; action = action; collection = collection; class = class; day = day }) (legal_policy h legal))
    where
      by : (o : Option RuleRow) → matching_rule (role_of (policy h) caller) (action_text action) (or_empty collection) (or_empty class) (epoch_day day) t.rules ≡ o → (d : Option Decision) → option_map place_and_effect o ≡ option_map rule_and_effect d → if_any decision_by o ≡ Some d
      by None is None told = refl
      by None is (Some d) told = absurd cc
      by (Some row) is None told = absurd cc
      by (Some row) is (Some d) told =
          let both = same_Some _ _ told in
          let place = numbered_at (λ (row : RuleRow). row.place) _ 1 t.rules row ranged.places is in
          let at : d.rule ≡ place.0 = same_count d.rule place.0 (sym (ap (λ p. p.0) both) ∙ place.1) in
          let in_range : IsRuleRow row = found_all IsRuleRow _ t.rules row ranged.rules is in
          let rule = rule_is row d.rule (sym (ap (λ p. p.0) both)) (omega (arith, at, place.2)) (omega (arith, at, place.3, ranged.few_rules)) in_range in
          ap (option_map Some) (decision_is row d rule (sym (ap (λ p. p.0) both)) (effect_is row.effect d.effect (sym (ap (λ p. p.1) both))))

  pub denial_exact : (visit : Visit) (action : Action) (collection class : Option (List ℕ)) → denial_in t visit action collection class ≡ Some (denial h visit.day visit.caller action collection class)
  denial_exact visit action collection class =
      (λ i. role_exact visit.caller i >>= λ role. decision_for t role visit.day action collection class >>= λ decision. Some (refusal_in (denial_verdict decision)))
      ∙ (λ i. decision_exact visit.day visit.caller action collection class i >>= λ decision. Some (refusal_in (denial_verdict decision)))

  -- ---- a hold that is there

  pub hold_at : (k : ℕ) → rows.hold_numbered (pos k) t.holds ≡ option_map (hold_row h k) (hold_numbered h k)
  hold_at k = ap (rows.hold_numbered (pos k)) (hold_rows_are h) ∙ found_at (hold_row h) (λ r. r.number) (λ m x. refl) (holds h) k

  pub hold_ranged : (k : ℕ) (found : Date × Hold) → hold_numbered h k ≡ Some found → IsHoldRow t (hold_row h k found)
  hold_ranged k found there = found_all (IsHoldRow t) (rows.is_hold (pos k)) t.holds (hold_row h k found) ranged.holds (hold_at k ∙ ap (option_map (hold_row h k)) there)

  scope_is : (target : Target) → scope_in (held_deposit target) (held_collection target) (held_class target) ≡ Some (scope_of target)
  scope_is (OnDeposit m) = refl
  scope_is _ = refl

  pub hold_told_exact : (k : ℕ) (found : Date × Hold) → hold_numbered h k ≡ Some found → hold_by (hold_row h k found) ≡ Some (live_hold k found)
  hold_told_exact k found there =
      let it = hold_ranged k found there in
      λ i. scope_is found.1.target i >>= λ on. day_back (epoch_day found.0) found.0 refl it.placed i >>= λ placed. answer_if (it.matter i) (record { number = k; matter = found.1.matter; on = on; placed = placed })

  pub released_days : (n : ℕ) (collection class : List ℕ) → are_released_on_days n collection class t ≡ true
  released_days n collection class = on_days t n collection class t.holds ranged.holds

  -- ---- a deposit that is there

  abbrev first_limit : List OfficeRow → ℤ
  first_limit [] = pos 0
  first_limit (row ∷ rows) = row.max_holds

  module _ (n : ℕ) (found : Date × Deposit) (there : deposit_numbered h n ≡ Some found) where
    pub row_there : rows.deposit_numbered (pos n) t.deposits ≡ Some (deposit_row h n found)
    row_there = deposit_told h n ∙ ap (option_map (deposit_row h n)) there

    abbrev days : Days
    days = record { closed = found.1.description.closed; deposited = found.0; gone = destruction_day h n }

    pub days_exact : days_of (deposit_row h n found) ≡ Some days
    days_exact =
        let it = found_all (IsDepositRow t) (rows.is_deposit (pos n)) t.deposits (deposit_row h n found) ranged.deposits row_there in
        days_read (deposit_row h n found) days it.in_turn (day_back (epoch_day days.closed) days.closed refl it.closed) (day_back (epoch_day days.deposited) days.deposited refl it.deposited) (days_back (option_map epoch_day days.gone) days.gone refl it.gone)

    pub kept_there : due_numbered (pos n) t.dues ≡ Some (due_row h n found)
    kept_there = due_told h n ∙ ap (option_map (due_row h n)) there

    kept_ranged : IsDueRow ranged.office_row (due_row h n found)
    kept_ranged = found_all (IsDueRow ranged.office_row) (rows.is_due_of (pos n)) t.dues (due_row h n found) ranged.dues kept_there

    pub due_exact : due_of_number (due_number (due h found.1)) ≡ Some (due h found.1)
    due_exact = due_back (due_number (due h found.1)) (due h found.1) refl kept_ranged.due

    pub hold_exact : counted_hold_in t (pos (length (live_holds h n found.1))) n found.1.description.collection found.1.description.class ≡ Some (least_hold h n found.1)
    hold_exact = by (live_holds h n found.1) refl
      where
        by : (ks : List ℕ) → live_holds h n found.1 ≡ ks → counted_hold_in t (pos (length ks)) n found.1.description.collection found.1.description.class ≡ Some (slice_get ks 0)
        by [] is = refl
        by (k ∷ ks) is =
            let over = (and_parts (is_live h k) (covers h k n found.1) (first_kept (λ m. is_live h m && covers h m n found.1) (numbers (length (holds h))) k ks is)).1 in
            let it = was_placed h k n found.1 over in
            let most : pos (length (k ∷ ks)) ≤ℤ pos h.max_holds = subst (λ m. pos (length (k ∷ ks)) ≤ℤ m) (sym (ap first_limit ranged.one_office)) (subst (λ xs. pos (length xs) ≤ℤ ranged.office_row.max_holds) is kept_ranged.holds.1) in
            counted_read n found.1.description.collection found.1.description.class t (pos (length (k ∷ ks))) k (λ none. omega (arith, signed_arith, none)) (ap Some (between (pos 1) (pos h.max_holds) (pos (length (k ∷ ks))) (omega (arith, signed_arith)) most))
            (least_read n found.1.description.collection found.1.description.class t k (map pos ks) (live_hold k it.0) (released_days n found.1.description.collection found.1.description.class) (live_told h n found.1 this_version ∙ ap (map pos) is)
            ((λ i. (hold_at k ∙ ap (option_map (hold_row h k)) it.1) i >>= λ row. hold_by row) ∙ hold_told_exact k it.0 it.1))

    pub facts_exact : (visit : Visit) → disposal_facts t (role_of (policy h) visit.caller) visit.day n (deposit_row h n found) ≡ Some (facts_of h visit.day visit.caller acts.Dispose n found.1)
    facts_exact visit =
        facts_told t (role_of (policy h) visit.caller) visit.day n (deposit_row h n found) days (deciding_rule_at h visit.day visit.caller acts.Dispose found.1) (due_row h n found) (due h found.1) (least_hold h n found.1)
        days_exact (decision_exact visit.day visit.caller acts.Dispose (Some found.1.description.collection) (Some found.1.description.class)) kept_there due_exact hold_exact
