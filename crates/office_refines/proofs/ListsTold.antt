-- Which deposits are listed by the rows, and which are due: those that a disposal would destroy.
use Rattle.office_refines.proofs.FirstLemmas.{◌≡◌, ℕ, suc, ◌+◌, ℤ, pos, Bool, true, not, ◌&&◌, List, [], ◌∷◌, length, map, filter, Option, Some, None, slice_get, is_none, refl, sym, ap, ap₂, subst, ◌∙◌, arith, cond, if◌then◌else◌, int_lt, int_eq, int_cmp, is_le, is_ge, ints, filter_map, cons_option, Date, epoch_day, IsEpochDay, signed_arith, first_some, answer_if, Refusal, Dispose, On, Never, DepositRecord, map_back, DepositRow, DueRow, beside, least_number, is_by, is_disposable, this_version, DisposableRow, disposable_row, disposable_rows, numbers, History, Deposit, deposits, destruction_day, due, live_holds, least_hold, picture, refusal_in, denial_at, held_refusal, not_due_refusal, disposal_refusals, denial, Wanted, different, Visit, deposit_numbered, due_number, gone_refusal, of_deposit, same_count, numbers_passing, live_same, both, rows_beside, by_Bool}
use Rattle.office_history.specs.Refusals.{refusal}
use Rattle.office_history.specs.Answers.{due_list, listed_record}
use Rattle.jiff_core.proofs.DateLemmas.{epoch_day_range}
use Rattle.sqlite_keyed.proofs.ListLemmas.{map-map, filter-map}
use Rattle.office_core.specs.declared.facts.Verdict.TheVariants.{NotDue}
use Rattle.office_core.specs.declared.retention.Due.{Due}
use Rattle.office_core.specs.Verdicts as deciding
use Rattle.office_core.specs.declared.action.Action.TheVariants as acts

-- a deposit that is kept, whose disposal would be accepted
abbrev is_due : History → Visit → ℕ → Bool
is_due h visit n = is_none (destruction_day h n) && is_none (refusal h visit.day visit.caller (Dispose n))

-- the record of a deposit that is kept, where it is listed
abbrev pub shown_record : History → Visit → Wanted → ℕ → Option DepositRecord
shown_record h visit wanted n = if is_none (destruction_day h n) then listed_record h visit.day visit.caller wanted n else None

-- the rules let the caller destroy that deposit
abbrev pub may_destroy : History → Visit → DisposableRow → Bool
may_destroy h visit place = is_none (denial h visit.day visit.caller acts.Dispose (Some place.collection) (Some place.class))

-- ---- two tests in one

filter_both : {A : Type 0} (first second : A → Bool) (xs : List A) → filter (λ n. first n && second n) xs ≡ filter second (filter first xs)
filter_both first second [] = refl
filter_both first second (x ∷ xs) =
    let rest = filter_both first second xs in by_Bool (first x) (λ passes. rw passes (ap (λ ns. cond (second x) (x ∷ ns) ns) rest)) (λ fails. rw fails rest)

pub told_of_those : {B : Type 0} (test : ℕ → Bool) (tell : ℕ → Option B) (xs : List ℕ) → filter_map (λ n. if test n then tell n else None) xs ≡ filter_map tell (filter test xs)
told_of_those test tell [] = refl
told_of_those test tell (x ∷ xs) =
    let rest = told_of_those test tell xs in by_Bool (test x) (λ passes. rw passes (ap (cons_option (tell x)) rest)) (λ fails. rw fails rest)

-- ---- one deposit

no_hold : (ks : List ℕ) → int_eq (pos (length ks)) (pos 0) ≡ is_none (slice_get ks 0)
no_hold [] = refl
no_hold (k ∷ ks) = different (suc (length ks)) 0 (λ e. omega (arith, e))

gone_stands : (o : Option Date) → is_none (refusal_in (deciding.gone_verdict o)) ≡ is_none o
gone_stands None = refl
gone_stands (Some day) = refl

hold_stands : (o : Option ℕ) → is_none (refusal_in (deciding.hold_verdict o)) ≡ is_none o
hold_stands None = refl
hold_stands (Some k) = refl

day_before : (a b : ℤ) → not (int_lt a b) ≡ is_le (int_cmp b a)
day_before a b = grind (arith, ints)

from_the_least : (n : ℤ) → IsEpochDay n → is_ge (int_cmp n least_number) ≡ true
from_the_least n range = grind (arith, ints, signed_arith, range.0)

due_stands : (day : Date) (d : Due) → is_none (refusal_in (deciding.due_verdict day d)) ≡ is_by (epoch_day day) (due_number d)
due_stands day Never = refl
due_stands day (On date) =
    let early = int_lt (epoch_day day) (epoch_day date) in
    let told : is_none (refusal_in (answer_if early (NotDue date))) ≡ not early = by_Bool early (λ is. rw is refl) (λ is. rw is refl) in
    told ∙ day_before (epoch_day day) (epoch_day date) ∙ ap (λ b. b && is_le (int_cmp (epoch_day date) (epoch_day day))) (sym (from_the_least (epoch_day date) (epoch_day_range date)))

-- the four refusals of a disposal, in their order
none_of_four : (a b c d : Option Refusal) → is_none (first_some (a ∷ b ∷ c ∷ d ∷ [])) ≡ (is_none a && (is_none b && (is_none c && is_none d)))
none_of_four (Some x) b c d = refl
none_of_four None (Some x) c d = refl
none_of_four None None (Some x) d = refl
none_of_four None None None (Some x) = refl
none_of_four None None None None = refl

-- that it is kept is asked twice
twice : (g a c d : Bool) → (g && (a && (g && (c && d)))) ≡ ((g && (c && d)) && a)
twice g a c d = grind arith

module _ (h : History) (visit : Visit) where
  abbrev passes : DepositRow × DueRow → Bool
  passes p = is_disposable (epoch_day visit.day) p && may_destroy h visit (disposable_row p)

  disposable_is : (n : ℕ) (x : Date × Deposit) → is_disposable (epoch_day visit.day) (both h n x)
      ≡ (is_none (destruction_day h n) && (is_none (least_hold h n x.1) && is_none (not_due_refusal h visit.day x.1)))
  disposable_is n x =
      ap₂ (λ a b. a && b) (live_same (destruction_day h n)) (ap₂ (λ a b. a && b) (no_hold (live_holds h n x.1)) (sym (due_stands visit.day (due h x.1))))

  refused_is : (n : ℕ) (x : Date × Deposit) → deposit_numbered h n ≡ Some x → is_none (refusal h visit.day visit.caller (Dispose n))
      ≡ (is_none (denial_at h visit.day visit.caller acts.Dispose x.1) && (is_none (destruction_day h n) && (is_none (least_hold h n x.1) && is_none (not_due_refusal h visit.day x.1))))
  refused_is n x there =
      ap (λ o. is_none (first_some (of_deposit o (disposal_refusals h visit.day visit.caller n)))) there
      ∙ none_of_four (denial_at h visit.day visit.caller acts.Dispose x.1) (gone_refusal h n) (held_refusal h n x.1) (not_due_refusal h visit.day x.1)
      ∙ (λ i. is_none (denial_at h visit.day visit.caller acts.Dispose x.1) && (gone_stands (destruction_day h n) i && (hold_stands (least_hold h n x.1) i && is_none (not_due_refusal h visit.day x.1))))

  passing_is : (n : ℕ) (x : Date × Deposit) → deposit_numbered h n ≡ Some x → passes (both h n x) ≡ is_due h visit n
  passing_is n x there =
      ap (λ b. b && may_destroy h visit (disposable_row (both h n x))) (disposable_is n x)
      ∙ sym (twice (is_none (destruction_day h n)) (is_none (denial_at h visit.day visit.caller acts.Dispose x.1)) (is_none (least_hold h n x.1)) (is_none (not_due_refusal h visit.day x.1)))
      ∙ ap (λ b. is_none (destruction_day h n) && b) (sym (refused_is n x there))

  -- ---- all of them

  -- the numbers of the disposable rows that the rules allow
  due_told : map (λ (p : DisposableRow). p.number) (filter (may_destroy h visit) (disposable_rows (epoch_day visit.day) (picture this_version h))) ≡ map pos (due_list h visit.day visit.caller)
  due_told =
      let pairs = filter (is_disposable (epoch_day visit.day)) (beside (picture this_version h).deposits (picture this_version h).dues) in
      let number : DepositRow × DueRow → ℤ = λ p. p.0.number in
      let moved : map (λ (p : DisposableRow). p.number) (filter (may_destroy h visit) (disposable_rows (epoch_day visit.day) (picture this_version h))) ≡ map number (filter (λ p. may_destroy h visit (disposable_row p)) pairs) =
      ap (map (λ (p : DisposableRow). p.number)) (filter-map (may_destroy h visit) disposable_row pairs) ∙ map-map (λ (p : DisposableRow). p.number) disposable_row (filter (λ p. may_destroy h visit (disposable_row p)) pairs) in
      moved ∙ ap (map number) (sym (filter_both (is_disposable (epoch_day visit.day)) (λ p. may_destroy h visit (disposable_row p)) (beside (picture this_version h).deposits (picture this_version h).dues))) ∙ ap (λ ps. map number (filter passes ps)) (rows_beside h)
      ∙ numbers_passing (both h) number (λ m x. refl) passes (is_due h visit) (deposits h) 1 (λ i x e.
      let one : suc i ≡ 1 + i = omega arith in passing_is (1 + i) x (subst (λ k. deposit_numbered h k ≡ Some x) one e))
      ∙ ap (map pos) (filter_both (λ n. is_none (destruction_day h n)) (λ n. is_none (refusal h visit.day visit.caller (Dispose n))) (numbers (length (deposits h))))

  -- so numbers that are those of the rows that a filter gives are the due list
  pub due_list_is : (found : List ℕ) → map pos found ≡ map (λ (p : DisposableRow). p.number) (filter (may_destroy h visit) (disposable_rows (epoch_day visit.day) (picture this_version h))) → found ≡ due_list h visit.day visit.caller
  due_list_is found e = map_back pos same_count found (due_list h visit.day visit.caller) (e ∙ due_told)
