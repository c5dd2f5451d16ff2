-- The rows of a legal history are in range.
use Rattle.office_history.proofs.FirstLemmas.{◌≡◌, ◌≤◌, ◌<ℤ◌, ◌&&◌, ℕ, zero, suc, ◌+◌, ℤ, pos, Bool, true, List, [], ◌∷◌, length, map, filter, Option, Some, None, IfSome, is_none, is_some, option_map, refl, sym, ap, subst, ◌∙◌, inl, inr, ◌⊎◌, arith, ⊤, Contains, bytes_eq, neg_ℤ, AllByRecursion, filter_map, flat_map, list_any, range_with_len, cons_option, length-map, bytes_eq-Decides, epoch_day-lt, epoch_day_range, signed_arith, Date, epoch_day, IsBetween, File, Fits, Has, has_contains, any_has, day_number, first_year, last_year, IsDay, IsDayNumber, IsYearsAfter, IsName, IsYears, due_number, due_of, Due, On, Never, IsNamed, HasNames, HasDays, IsNamedCaller, Caller, ActionPattern, Effect, Allow, Deny, Pattern, Rule, RuleRow, ClassRow, DepositRow, DueRow, HoldRow, item_numbered, numbers, in_first_places, History, Target, OnDeposit, OnCollection, OnClass, Deposit, policy, years_of, has_class, has_collection, deposits, deposit_numbered, destruction_day, due, holds, hold_numbered, release_day, is_live, covers, live_holds, IsThere, office_row, effect_number, pattern_text, action_pattern_text, caller_row, rule_rows, years_number, class_row, class_in, row_of_class, class_rows, collection_rows, deposit_row, deposit_rows, row_of_deposit, due_row, row_of_due, file_row, held_deposit, held_collection, held_class, hold_row, row_of_hold, picture, IsLegal, files_of, all_numbered, all_said, each, all_append, first_places_have, is_nothing, option_map_some, by_Bool, by_Option, collections}
use Rattle.std.proofs.lemmas.List.FromFn.{length-range_with_len}
use Rattle.std.proofs.lemmas.List.Sums.{length-filter, count_by-le-length}
use Rattle.bag_check.proofs.CodeLemmas.{few_payload, small_payload}
use Rattle.office_core.proofs.DueLemmas.{is_due_of}
use Rattle.office_core.specs.Bounds.{max_years}
use Rattle.office_core.specs.Retention.{IsDue, IsDueNumber}
use Rattle.office_core.specs.declared.rule.ActionPattern.TheVariants as action_patterns
use Rattle.office_core.specs.declared.rule.Pattern.TheVariants as patterns
use Rattle.office_history.specs.RowRanges.{AreNumbered, IsPatternText, IsActionText, IsOneTarget, IsCallerRow, IsRuleRow, IsClassRow, IsDepositRow, IsDueRow, IsFileRow, IsHoldRow, AreInRange}
use Rattle.office_history.proofs.LegalLemmas.{Reads, Judges}
use Rattle.office_history.proofs.LegalReadings.{legal_policy}
use Rattle.office_history.proofs.Pictured.{there_is, told_at, was_defined, all_distinct, names_read}
use Rattle.office_history.proofs.RangeLemmas.{limits_hold, WasClosed, closed_deposits, gone_days, released_days, named_classes, named_collections, IsDeposited, ranged_deposits, IsPlaced, ranged_holds, HasPlace, placed_deposits, HasTarget, placed_holds, HasSoundBag, sound_deposits}

-- ---- lists

-- of what is told of some items, each is so
all_told : {A R : Type 0} (P : R → Type 0) (tell : A → Option R) → ((item : A) (row : R) → tell item ≡ Some row → P row) → (items : List A) → AllByRecursion P (filter_map tell items)
all_told {A = A} P tell so items = all_said (λ (_ : A). ⊤) P tell (λ item _. so item) items (each (λ (_ : A). ⊤) (λ _. tt) items)

-- the items have the numbers from 1 on
item_there : {A : Type 0} (xs : List A) (n : ℕ) → 1 ≤ n → n ≤ length xs → (x : A) × (item_numbered xs n ≡ Some x)
item_there xs zero low high = absurd (omega (arith, low))
item_there xs (suc i) low high = there_is xs i (omega (arith, high))

numbered_rows : {A R : Type 0} (xs : List A) (tell : ℕ → A → R) (number : R → ℤ) → ((n : ℕ) (x : A) → number (tell n x) ≡ pos n)
    → (len start : ℕ) → 1 ≤ start → start + len ≤ length xs + 1
    → AreNumbered number start (filter_map (λ m. option_map (tell m) (item_numbered xs m)) (range_with_len start len))
numbered_rows xs tell number is zero start low high = tt
numbered_rows {A = A} {R = R} xs tell number is (suc len) start low high =
    let here = item_there xs start low (omega (arith, high)) in
    subst (λ (o : Option A). AreNumbered number start (cons_option (option_map (tell start) o) (filter_map (λ m. option_map (tell m) (item_numbered xs m)) (range_with_len (start + 1) len))))
    (sym here.1)
    (is start here.0, numbered_rows xs tell number is len (start + 1) (omega arith) (omega (arith, high)))

few_told : {A R : Type 0} (tell : A → Option R) (xs : List A) → length (filter_map tell xs) ≤ length xs
few_told tell [] = omega arith
few_told tell (x ∷ xs) = by_Option (tell x) (λ none. rw none (omega (arith, few_told tell xs))) (λ row is. rw is (omega (arith, few_told tell xs)))

-- ---- what rows speak of

row_there : (h : History) (n : ℕ) (found : Date × Deposit) → deposit_numbered h n ≡ Some found → item_numbered (deposit_rows h) n ≡ Some (deposit_row h n found)
row_there h n found e = told_at (deposits h) (deposit_row h) n ∙ ap (option_map (deposit_row h n)) e

-- what is among some texts is among them once each
text_there : (name : List ℕ) (texts : List (List ℕ)) → list_any (bytes_eq name) texts ≡ true → Contains (in_first_places texts) name
text_there name texts e =
    let found = any_has (bytes_eq name) texts e in
    let here : Has texts name = subst (Has texts) (sym ((bytes_eq-Decides name found.0).0 found.2)) found.1 in
    has_contains (in_first_places texts) name (first_places_have name texts here)

collection_there : (h : History) (name : List ℕ) → has_collection h name ≡ true → Contains (collection_rows h) name
collection_there h name e = text_there name (collections h) e

class_there : (h : History) (name : List ℕ) → has_class h name ≡ true → Contains (map (λ (row : ClassRow). row.name) (class_rows h)) name
class_there h name e =
    subst (λ (names : List (List ℕ)). Contains names name) (sym (names_read h)) (text_there name (filter_map class_in h.changes)
    (by_Option (years_of h name) (λ none. absurd (let some = rw none at e in cc)) (λ years is. was_defined name years h.changes is)))

-- ---- callers and rules

ranged_callers : (callers : List Caller) → AllByRecursion IsNamedCaller callers → AllByRecursion IsCallerRow (map caller_row callers)
ranged_callers [] all = tt
ranged_callers (caller ∷ callers) all = (record { name = all.0.0; role = all.0.1 }, ranged_callers callers all.1)

pattern_ranged : (p : Pattern) → IsNamed p → IsPatternText (pattern_text p)
pattern_ranged patterns.Any named = inl refl
pattern_ranged (patterns.Named only) named = inr named

action_ranged : (p : ActionPattern) → IsActionText (action_pattern_text p)
action_ranged action_patterns.Any = inl refl
action_ranged (action_patterns.Only action) = inr (action, refl)

effect_ranged : (effect : Effect) → (effect_number effect ≡ pos 0) ⊎ (effect_number effect ≡ pos 1)
effect_ranged Allow = inr refl
effect_ranged Deny = inl refl

ranged_rules : (place : ℕ) (rules : List Rule) → AllByRecursion HasNames rules → AllByRecursion HasDays rules → AllByRecursion IsRuleRow (rule_rows place rules)
ranged_rules place [] all days = tt
ranged_rules place (rule ∷ rules) all days = (
  record {
    effect = effect_ranged rule.effect;
    role = pattern_ranged rule.role all.0.0;
    action = action_ranged rule.action;
    collection = pattern_ranged rule.collection all.0.1;
    class = pattern_ranged rule.class all.0.2;
    first = day_number rule.first days.0.0;
    last = day_number rule.last days.0.1;
    in_turn = days.0.2;
  },
  ranged_rules (place + 1) rules all.1 days.1,
)

pub count_of_rules : (place : ℕ) (rules : List Rule) → length (rule_rows place rules) ≡ length rules
count_of_rules place [] = refl
count_of_rules place (rule ∷ rules) = ap suc (count_of_rules (place + 1) rules)

numbered_rules : (place : ℕ) (rules : List Rule) → AreNumbered (λ (row : RuleRow). row.place) place (rule_rows place rules)
numbered_rules place [] = tt
numbered_rules place (rule ∷ rules) = (refl, numbered_rules (place + 1) rules)

-- ---- classes

years_ranged : (years : Option ℕ) → IsYears years → IsBetween (neg_ℤ (pos 1)) (pos max_years) (years_number years)
years_ranged None is = (omega (arith, signed_arith), omega (arith, signed_arith))
years_ranged (Some years) is = (omega (arith, signed_arith), omega (arith, signed_arith, is))

class_ranged : (h : History) → IsLegal h → (name : List ℕ) (row : ClassRow) → row_of_class h name ≡ Some row → IsClassRow row
class_ranged h legal name row e =
    option_map_some (class_row name) (years_of h name) row e (λ years there same.
    let named = named_classes h legal name years there in
    subst IsClassRow same (record { name = named.0; years = years_ranged years named.1 }))

-- ---- deposits and their files

day_ranged : (o : Option Date) → ((day : Date) → o ≡ Some day → IsDay day) → IfSome (option_map epoch_day o) IsDayNumber
day_ranged None so = tt
day_ranged (Some day) so = day_number day (so day refl)

deposit_ranged : Reads → Judges → (h : History) (version : ℤ) → IsLegal h → (n : ℕ) (row : DepositRow) → row_of_deposit h n ≡ Some row → IsDepositRow (picture version h) row
deposit_ranged reads judges h version legal n row e =
    option_map_some (deposit_row h n) (deposit_numbered h n) row e (λ found there same.
    let made = all_numbered IsDeposited (deposits h) n found (ranged_deposits h legal) there in
    let closed = all_numbered WasClosed (deposits h) n found (closed_deposits h legal) there in
    let place = all_numbered (HasPlace h) (deposits h) n found (placed_deposits h legal) there in
    let bag = (all_numbered HasSoundBag (deposits h) n found (sound_deposits reads judges h legal) there).bag in
    subst (IsDepositRow (picture version h)) same (record {
      accession = made.1.accession;
      collection = collection_there h found.1.description.collection place.0;
      class = class_there h found.1.description.class place.1;
      closed = day_number found.1.description.closed made.1.closed;
      deposited = day_number found.0 made.0;
      in_turn = closed;
      files = (omega (arith, signed_arith), omega (arith, signed_arith, bag.few, few_payload found.1.bag));
      bytes = (omega (arith, signed_arith), omega (arith, signed_arith, bag.few, small_payload found.1.bag bag.each));
      gone = day_ranged (destruction_day h n) (gone_days h legal n);
    }))

bag_ranged : Reads → Judges → (h : History) → IsLegal h → (n : ℕ) → AllByRecursion Fits (files_of h n)
bag_ranged reads judges h legal n =
    by_Option (deposit_numbered h n) (λ none. rw none tt) (λ found there. rw there ((all_numbered HasSoundBag (deposits h) n found (sound_deposits reads judges h legal) there).bag.each))

files_ranged : (h : History) (version : ℤ) (n : ℕ) (found : Date × Deposit) → deposit_numbered h n ≡ Some found → destruction_day h n ≡ None
    → (files : List File) → AllByRecursion Fits files → AllByRecursion (IsFileRow (picture version h)) (map (file_row n) files)
files_ranged h version n found is stays [] all = tt
files_ranged h version n found is stays (file ∷ files) all = (
  record {
    file = record { good = all.0.good; small = all.0.small };
    number = n;
    deposit = deposit_row h n found;
    of_deposit = refl;
    there = row_there h n found is;
    kept = ap (option_map epoch_day) stays;
  },
  files_ranged h version n found is stays files all.1,
)

-- the files of a deposit that was not destroyed
kept_ranged : Reads → Judges → (h : History) (version : ℤ) → IsLegal h → (n : ℕ) → destruction_day h n ≡ None → AllByRecursion (IsFileRow (picture version h)) (map (file_row n) (files_of h n))
kept_ranged reads judges h version legal n stays =
    by_Option (deposit_numbered h n) (λ none. rw none tt)
    (λ found there. rw there (files_ranged h version n found there stays found.1.bag (rw there at (bag_ranged reads judges h legal n))))

-- what is so of the rows of each number that passes is so of all of them
passing_rows : {R : Type 0} (P : R → Type 0) (p : ℕ → Bool) (rows : ℕ → List R) → ((n : ℕ) → p n ≡ true → AllByRecursion P (rows n)) → (ns : List ℕ) → AllByRecursion P (flat_map rows (filter p ns))
passing_rows P p rows so [] = tt
passing_rows P p rows so (n ∷ ns) =
    by_Bool (p n) (λ is. rw is (all_append P (rows n) (flat_map rows (filter p ns)) (so n is) (passing_rows P p rows so ns))) (λ fails. rw fails (passing_rows P p rows so ns))

-- ---- what is kept of deposits

-- a date some years after a day of the office is not before its first day, nor past the calendar
after_ranged : (closing date : Date) (years : ℕ) → IsDay closing → IsYearsAfter closing years date → IsDueNumber (epoch_day date)
after_ranged closing date zero is after =
    let same : date.year ≡ closing.year = omega (arith, signed_arith, after.year) in
    ((day_number date (subst (IsBetween first_year last_year) (sym same) is)).0, (epoch_day_range date).1)
after_ranged closing date (suc years) is after =
    let later : closing.year <ℤ date.year = omega (arith, signed_arith, after.year) in
    (omega (arith, signed_arith, (day_number closing is).0, epoch_day-lt closing date (inl later)), (epoch_day_range date).1)

due_ranged : (closing : Date) (years : Option ℕ) (falls : Due) → IsDay closing → IsDue closing years falls → IfSome (due_number falls) IsDueNumber
due_ranged closing (Some years) (On date) in_day is = after_ranged closing date years in_day is
due_ranged closing None (On date) in_day is = absurd is
due_ranged closing years Never in_day is = tt

class_due_ranged : (h : History) → IsLegal h → (deposit : Deposit) → IsDay deposit.description.closed → IfSome (due_number (due h deposit)) IsDueNumber
class_due_ranged h legal deposit in_day =
    let d = deposit.description in
    by_Option (years_of h d.class) (λ none. rw none tt)
    (λ years e. rw e (due_ranged d.closed years (due_of d.closed years) in_day (is_due_of d.closed years in_day (named_classes h legal d.class years e).1)))

-- no more live holds than were accepted
pub few_live : (h : History) (n : ℕ) (deposit : Deposit) → length (live_holds h n deposit) ≤ length (holds h)
few_live h n deposit =
    let all = numbers (length (holds h)) in
    let live : ℕ → Bool = λ k. is_live h k && covers h k n deposit in
    omega (arith, length-filter live all, count_by-le-length live all, length-range_with_len 1 (length (holds h)))

due_row_ranged : (h : History) (version : ℤ) → IsLegal h → (n : ℕ) (row : DueRow) → row_of_due h n ≡ Some row → IsDueRow (office_row version h) row
due_row_ranged h version legal n row e =
    option_map_some (due_row h n) (deposit_numbered h n) row e (λ found there same.
    let made = all_numbered IsDeposited (deposits h) n found (ranged_deposits h legal) there in
    subst (IsDueRow (office_row version h)) same (record {
      due = class_due_ranged h legal found.1 made.1.closed;
      holds = (omega (arith, signed_arith), omega (arith, signed_arith, few_live h n found.1, (limits_hold h legal).holds_in));
    }))

-- ---- holds

target_ranged : (h : History) (version : ℤ) (target : Target) → IsThere h target → IsOneTarget (picture version h) (held_deposit target) (held_collection target) (held_class target)
target_ranged h version (OnDeposit n) there =
    by_Option (deposit_numbered h n) (λ none. absurd (let some = rw none at there in cc)) (λ found is. (n, refl, ap is_some (row_there h n found is)))
target_ranged h version (OnCollection name) there = collection_there h name there
target_ranged h version (OnClass name) there = class_there h name there

hold_ranged : (h : History) (version : ℤ) → IsLegal h → (k : ℕ) (row : HoldRow) → row_of_hold h k ≡ Some row → IsHoldRow (picture version h) row
hold_ranged h version legal k row e =
    option_map_some (hold_row h k) (hold_numbered h k) row e (λ found there same.
    let made = all_numbered IsPlaced (holds h) k found (ranged_holds h legal) there in
    let target = all_numbered (HasTarget h) (holds h) k found (placed_holds h legal) there in
    subst (IsHoldRow (picture version h)) same (record {
      target = target_ranged h version found.1.target target;
      matter = made.1.matter;
      placed = day_number found.0 made.0;
      released = day_ranged (release_day h k) (released_days h legal k);
    }))

-- ---- all rows

pub rows_in_range : Reads → Judges → (h : History) (version : ℤ) → IsLegal h → AreInRange version (picture version h)
rows_in_range reads judges h version legal =
    let within = limits_hold h legal in
    let rules = legal_policy h legal in
    record {
      office_row = record { id = pos 1; version = version; max_deposits = pos h.max_deposits; max_holds = pos h.max_holds };
      one_office = refl;
      office = record {
        id = refl;
        version = refl;
        max_deposits = within.deposits_limit;
        max_holds = within.holds_limit;
      };
      few_deposits = omega (arith, signed_arith, within.deposits_in, few_told (row_of_deposit h) (numbers (length (deposits h))), length-range_with_len 1 (length (deposits h)));
      few_holds = omega (arith, signed_arith, within.holds_in, few_told (row_of_hold h) (numbers (length (holds h))), length-range_with_len 1 (length (holds h)));
      few_callers = rw (length-map (policy h).callers caller_row) rules.few_callers;
      few_rules = rw (count_of_rules 1 (policy h).rules) rules.few_rules;
      callers = ranged_callers (policy h).callers rules.callers_are_names;
      rules = ranged_rules 1 (policy h).rules rules.rules_ask_for_names rules.rules_have_days;
      places = numbered_rules 1 (policy h).rules;
      classes = all_told IsClassRow (row_of_class h) (class_ranged h legal) (in_first_places (filter_map class_in h.changes));
      collections = all_distinct IsName [] (collections h) (named_collections h legal);
      deposits = all_told (IsDepositRow (picture version h)) (row_of_deposit h) (deposit_ranged reads judges h version legal) (numbers (length (deposits h)));
      deposit_numbers = numbered_rows (deposits h) (deposit_row h) (λ (row : DepositRow). row.number) (λ n x. refl) (length (deposits h)) 1 (omega arith) (omega arith);
      dues = all_told (IsDueRow (office_row version h)) (row_of_due h) (due_row_ranged h version legal) (numbers (length (deposits h)));
      due_numbers = numbered_rows (deposits h) (due_row h) (λ (row : DueRow). row.number) (λ n x. refl) (length (deposits h)) 1 (omega arith) (omega arith);
      files = passing_rows (IsFileRow (picture version h)) (λ n. is_none (destruction_day h n)) (λ n. map (file_row n) (files_of h n)) (λ n passes. kept_ranged reads judges h version legal n (is_nothing (destruction_day h n) passes)) (numbers (length (deposits h)));
      holds = all_told (IsHoldRow (picture version h)) (row_of_hold h) (hold_ranged h version legal) (numbers (length (holds h)));
      hold_numbers = numbered_rows (holds h) (hold_row h) (λ (row : HoldRow). row.number) (λ n x. refl) (length (holds h)) 1 (omega arith) (omega arith);
    }
