-- Which rule decides, and what follows from its effect.
use Rattle.office_core.proofs.Common.{◌≡◌, ◌<◌, ◌<ℤ◌, ◌≤ℤ◌, ℕ, zero, suc, ◌+◌, Bool, true, false, ◌&&◌, ◌++◌, List, [], ◌∷◌, length, Option, Some, None, refl, sym, ap, ◌∙◌, arith, rules, slice_get, get_or, ◌≤◌, ◌↔◌, position, unwrap_or, int_lt, int_le, if◌then◌else◌, option_and_then, option_map, not, nat_lt, length-append, position_or_len, prefix_len, AllByRecursion, false≢true, and_parts, nat_tests, by_lt_z, none-some, same_Some, cond_some, option_and_then_some, slice_get_within, slice_get-get_or, get_or_from_slice_get, Date, epoch_day, first_some, first_day, last_day, IsDay, Question, HasNoDays, IsFirstMatch, NoneMatches, asked_on, counts_on, patterns_match, matches, matches_name, first_place, decision_of, decision_at, some_rule_allows, allows, Rule, Due, On, Never}
use Rattle.std.proofs.Math.Bool.{and-true}
use Rattle.std.proofs.lemmas.List.Quantifiers.{position-Some}
use Rattle.std.proofs.lemmas.Map.Keys.{any_passes_from_place}
use Rattle.office_core.specs.Verdicts.{verdict_of, is_denied, IsReadyForDisposal, hold_verdict, due_verdict}
use Rattle.office_core.specs.declared.action.Action.TheVariants.{Dispose}
use Rattle.office_core.specs.declared.rule.Effect.{Effect}
use Rattle.office_core.specs.declared.rule.Effect.TheVariants as effects
use Rattle.office_core.specs.declared.rule.Decision.{Decision}
use Rattle.office_core.specs.declared.facts.Facts.{Facts}
use Rattle.office_core.specs.declared.facts.Verdict.TheVariants.{DeniedByRule, DeniedByDefault, Gone, NotDue, Allow}
use Rattle.office_core.proofs.OptionLemmas.{option_map_some, by_Bool, by_Option}
use Rattle.office_core.proofs.DayLemmas.{day_number, first_number, last_number}
use Rattle.bag_text.proofs.ElementLemmas.{slice_get-append}

prefix_len-append : {A : Type 0} (p : A → Bool) (xs ys : List A) → prefix_len p xs < length xs → prefix_len p (xs ++ ys) ≡ prefix_len p xs
prefix_len-append p [] ys h = absurd (omega (arith, h))
prefix_len-append p (x ∷ xs) ys h =
    by_Bool (p x) (λ hit. rw hit (ap (λ n. 1 + n) (prefix_len-append p xs ys (omega (arith, rw hit at h))))) (λ miss. rw miss refl)

-- the first place of a list is that of a longer list
position-append : {A : Type 0} (p : A → Bool) (xs ys : List A) (i : ℕ) → position p xs ≡ Some i → position p (xs ++ ys) ≡ Some i
position-append p xs ys i e =
    let (within, same) = cond_some (nat_lt (position_or_len p xs) (length xs)) (position_or_len p xs) i e in
    let under : position_or_len p xs < length xs = grind (arith, nat_tests, within) in
    let longer : nat_lt (position_or_len p xs) (length (xs ++ ys)) ≡ true = grind (arith, nat_tests, under, length-append xs ys) in
    rw (prefix_len-append (λ x. not (p x)) xs ys under, longer) (ap Some same)

-- ---- the first rule that matches

first_place_at : {A : Type 0} (p : A → Bool) (xs : List A) (i : ℕ) (x : A) → slice_get xs i ≡ Some x → p x ≡ true
    → ((k : ℕ) (y : A) → k < i → slice_get xs k ≡ Some y → p y ≡ false) → position_or_len p xs ≡ i
first_place_at p [] i x at passes before = absurd (none-some x at)
first_place_at p (y ∷ ys) zero x at passes before = let same : y ≡ x = same_Some _ _ at in rw (same, passes) refl
first_place_at p (y ∷ ys) (suc i) x at passes before =
    rw (before 0 y (omega arith) refl) (omega (arith, first_place_at p ys i x at passes (λ k z lt is. before (suc k) z (omega (arith, lt)) is)))

fails_before_end : {A : Type 0} (p : A → Bool) (xs : List A) → length xs ≤ position_or_len p xs → AllByRecursion (λ x. p x ≡ false) xs
fails_before_end p [] h = tt
fails_before_end p (x ∷ xs) h =
    by_Bool (p x) (λ hit. absurd (omega (arith, rw hit at h))) (λ miss. (miss, fails_before_end p xs (omega (arith, rw miss at h))))

end_where_all_fail : {A : Type 0} (p : A → Bool) (xs : List A) → AllByRecursion (λ x. p x ≡ false) xs → position_or_len p xs ≡ length xs
end_where_all_fail p [] h = refl
end_where_all_fail p (x ∷ xs) h = rw h.0 (omega (arith, end_where_all_fail p xs h.1))

place_matches : (rules : List Rule) (asked : Question) (place : ℕ) → first_place rules asked ≡ Some place → IsFirstMatch rules asked place
place_matches [] asked place e = absurd cc
place_matches (rule ∷ rules) asked place e =
    let (within, here, earlier) = position-Some (λ r. matches r asked) (rule ∷ rules) place rule e in
    record {
      rule = get_or (rule ∷ rules) place rule;
      at = slice_get-get_or (rule ∷ rules) place rule within;
      matched = here;
      before = λ k other lt is. rw (get_or_from_slice_get (rule ∷ rules) k other rule is) at (earlier k lt);
    }

match_is_first : (rules : List Rule) (asked : Question) (place : ℕ) → IsFirstMatch rules asked place → first_place rules asked ≡ Some place
match_is_first rules asked place is =
    let same = first_place_at (λ r. matches r asked) rules place is.rule is.at is.matched is.before in
    let under : position_or_len (λ r. matches r asked) rules < length rules = omega (arith, same, slice_get_within rules place is.rule is.at) in
    let within : nat_lt (position_or_len (λ r. matches r asked) rules) (length rules) ≡ true = grind (arith, nat_tests, under) in
    rw within (ap Some same)

-- `first_place` is the place of the first rule that matches
pub first_place_is : (rules : List Rule) (asked : Question) (place : ℕ) → (first_place rules asked ≡ Some place) ↔ IsFirstMatch rules asked place
first_place_is rules asked place = (place_matches rules asked place, match_is_first rules asked place)

place_is_none : (p : Rule → Bool) (rules : List Rule) → position p rules ≡ None → length rules ≤ position_or_len p rules
place_is_none p rules e =
    by_Bool (nat_lt (position_or_len p rules) (length rules)) (λ within. absurd (none-some (position_or_len p rules) (sym e ∙ rw within refl))) (λ past. grind (arith, nat_tests, past))

none_at_end : (p : Rule → Bool) (rules : List Rule) → AllByRecursion (λ rule. p rule ≡ false) rules → position p rules ≡ None
none_at_end p rules fail =
    let same = end_where_all_fail p rules fail in
    let past : nat_lt (position_or_len p rules) (length rules) ≡ false = grind (arith, nat_tests, same) in
    rw past refl

-- and there is none exactly where no rule matches
pub no_place_is : (rules : List Rule) (asked : Question) → (first_place rules asked ≡ None) ↔ NoneMatches rules asked
no_place_is rules asked = (
  λ e. fails_before_end (λ r. matches r asked) rules (place_is_none (λ r. matches r asked) rules e),
  none_at_end (λ r. matches r asked) rules,
)

-- ---- days

-- a rule that doesn't count on a day is the first that matches on none of its questions
pub off_its_days : (rules : List Rule) (asked : Question) (place : ℕ) (rule : Rule) → slice_get rules place ≡ Some rule → counts_on rule asked.day ≡ false
    → first_place rules asked ≡ Some place → ⊥
off_its_days rules asked place rule at off first =
    let is = place_matches rules asked place first in
    let same : is.rule ≡ rule = same_Some _ _ (sym is.at ∙ at) in
    let counts : counts_on is.rule asked.day ≡ true =
    (and_parts (patterns_match is.rule asked) (counts_on is.rule asked.day) is.matched).1 in
    false≢true (sym off ∙ ap (λ r. counts_on r asked.day) (sym same) ∙ counts)

-- a rule that counts on each day counts on a day
counts_each_day : (rule : Rule) (day : Date) → HasNoDays rule → IsDay day → counts_on rule day ≡ true
counts_each_day rule day none is =
    let number = day_number day is in
    let low : int_le (epoch_day first_day) (epoch_day day) ≡ true = rw first_number (search (rules, number.0)) in
    let high : int_le (epoch_day day) (epoch_day last_day) ≡ true = rw last_number (search (rules, number.1)) in
    rw (none.first, none.last, low, high) refl

-- and so matches where its patterns do
pub matches_by_patterns : (rule : Rule) (asked : Question) → HasNoDays rule → IsDay asked.day → matches rule asked ≡ patterns_match rule asked
matches_by_patterns rule asked none is = ap (λ counts. patterns_match rule asked && counts) (counts_each_day rule asked.day none is) ∙ and-true (patterns_match rule asked)

-- and so of such rules the first whose patterns match decides
alike_before : (p q : Rule → Bool) (rules : List Rule) → ((rule : Rule) → HasNoDays rule → p rule ≡ q rule) → AllByRecursion HasNoDays rules
    → prefix_len (λ r. not (p r)) rules ≡ prefix_len (λ r. not (q r)) rules
alike_before p q [] same none = refl
alike_before p q (rule ∷ rules) same none = rw (same rule none.0, alike_before p q rules same none.1) refl

pub decided_by_patterns : (rules : List Rule) (asked : Question) → AllByRecursion HasNoDays rules → IsDay asked.day
    → first_place rules asked ≡ position (λ rule. patterns_match rule asked) rules
decided_by_patterns rules asked none is = ap (λ end. if nat_lt end (length rules) then Some end else None) (alike_before (λ r. matches r asked) (λ r. patterns_match r asked) rules (λ rule each. matches_by_patterns rule asked each is) none)

-- and so matches on each of them alike
matches_alike : (rule : Rule) (asked : Question) (day other : Date) → HasNoDays rule → IsDay day → IsDay other → matches rule (asked_on day asked) ≡ matches rule (asked_on other asked)
matches_alike rule asked day other none is is_other = rw (counts_each_day rule day none is, counts_each_day rule other none is_other) refl

-- rules that count on each day decide alike on each
pub decided_alike : (rules : List Rule) (asked : Question) (day other : Date) → AllByRecursion HasNoDays rules → IsDay day → IsDay other
    → decision_of rules (asked_on day asked) ≡ decision_of rules (asked_on other asked)
decided_alike rules asked day other none is is_other =
    ap (λ end. option_and_then (λ place. option_map (decision_at place) (slice_get rules place)) (if nat_lt end (length rules) then Some end else None))
    (alike_before (λ r. matches r (asked_on day asked)) (λ r. matches r (asked_on other asked)) rules (λ rule each. matches_alike rule asked day other each is is_other) none)

-- ---- the rule that decides

-- the rule that decides matches
pub decided : (rules : List Rule) (asked : Question) (decision : Decision) → decision_of rules asked ≡ Some decision
    → (place : ℕ) × (rule : Rule) × (first_place rules asked ≡ Some place) × (slice_get rules place ≡ Some rule) × (decision_at place rule ≡ decision) × (matches rule asked ≡ true)
decided rules asked decision e =
    option_and_then_some _ (first_place rules asked) decision e
    (λ place at is. option_map_some (decision_at place) (slice_get rules place) decision is
    (λ rule found same. (
      place,
      rule,
      at,
      found,
      same,
      rw (get_or_from_slice_get rules place rule rule found) at ((position-Some (λ r. matches r asked) rules place rule at).1),
    )))

allows_none : (a b : Effect) → a ≡ b → ¬ (allows a ≡ true) → allows b ≡ false
allows_none effects.Allow b e h = absurd (h refl)
allows_none effects.Deny b e h = rw (← e) refl

not_before : (day date : Date) → epoch_day day <ℤ epoch_day date → unwrap_or (first_some (due_verdict day (On date) ∷ [])) Allow ≡ Allow → ⊥
not_before day date lt is =
    let before : int_lt (epoch_day day) (epoch_day date) ≡ true = search (rules, lt) in
    let wrong : NotDue date ≡ Allow = rw before at is in
    cc

-- a rule that allows a role is one that allows
pub denied_role : (rules : List Rule) (asked : Question) (decision : Decision) → some_rule_allows rules asked.role ≡ false → decision_of rules asked ≡ Some decision → allows decision.effect ≡ false
denied_role rules asked decision none e =
    let (place, rule, first, found, same, matched) = decided rules asked decision e in
    let role : matches_name rule.role asked.role ≡ true = (and_parts _ _ (and_parts _ _ (and_parts _ _ (and_parts _ _ matched).0).0).0).0 in
    let effect : rule.effect ≡ decision.effect = ap (λ d. d.effect) same in
    allows_none rule.effect decision.effect effect
    (λ allowed. false≢true (sym none ∙ any_passes_from_place (λ r. allows r.effect && matches_name r.role asked.role) rules place rule found (rw (allowed, role) refl)))

-- a denied decision is a denial
pub denied_verdict : (facts : Facts) (day : Date) (decision : Option Decision) → facts.decision ≡ decision → ((d : Decision) → decision ≡ Some d → allows d.effect ≡ false) → is_denied (verdict_of facts day) ≡ true
denied_verdict facts day None e h = rw e refl
denied_verdict facts day (Some d) e h = rw (e, h d refl) refl

-- what an allowed disposal needs
ready : (facts : Facts) (day : Date) (decision : Decision) (hold : Option ℕ) (due : Due) → facts.decision ≡ Some decision → decision.effect ≡ effects.Allow → facts.gone ≡ None → facts.hold ≡ hold → facts.due ≡ due
    → unwrap_or (first_some (hold_verdict hold ∷ due_verdict day due ∷ [])) Allow ≡ Allow → IsReadyForDisposal facts day
ready facts day decision (Some k) due a b c d e is = cc
ready facts day decision None Never a b c d e is = cc
ready facts day decision None (On date) a b c d e is =
    by_lt_z (epoch_day day) (epoch_day date)
    (λ lt. absurd (not_before day date lt is))
    (λ ge. record { decision = decision; date = date; decided = a; allowed = b; kept = c; unheld = d; due = e; has_come = ge })

-- rules that are added after a list change no decision of it
pub kept_decision : (rules more : List Rule) (asked : Question) (decision : Decision) → decision_of rules asked ≡ Some decision → decision_of (rules ++ more) asked ≡ Some decision
kept_decision rules more asked decision e =
    let (place, rule, first, found, same, matched) = decided rules asked decision e in
    ap (option_and_then (λ at. option_map (decision_at at) (slice_get (rules ++ more) at))) (position-append (λ r. matches r asked) rules more place first)
    ∙ ap (option_map (decision_at place)) (slice_get-append rules more place rule found) ∙ ap Some same

-- an allowed disposal is ready
pub allowed_disposal : (facts : Facts) (day : Date) → facts.action ≡ Dispose → verdict_of facts day ≡ Allow → IsReadyForDisposal facts day
allowed_disposal facts day d is =
    by_Option facts.decision (λ none. let wrong : DeniedByDefault ≡ Allow = rw none at is in cc)
    (λ decision a. by_effect decision decision.effect a refl)
  where
    by_effect : (decision : Decision) (effect : Effect) → facts.decision ≡ Some decision → decision.effect ≡ effect → IsReadyForDisposal facts day
    by_effect decision effects.Deny a b = let wrong : DeniedByRule decision.rule ≡ Allow = rw (a, b) at is in cc
    by_effect decision effects.Allow a b =
        by_Option facts.gone (λ kept. ready facts day decision facts.hold facts.due a b kept refl refl (rw (a, b, kept, d) at is))
        (λ on gone. let wrong : Gone on ≡ Allow = rw (a, b, gone) at is in cc)

ready_allows : (day date : Date) → epoch_day date ≤ℤ epoch_day day → unwrap_or (first_some (due_verdict day (On date) ∷ [])) Allow ≡ Allow
ready_allows day date come =
    let due : int_lt (epoch_day day) (epoch_day date) ≡ false = search (rules, come) in
    rw due refl

-- and a disposal that is ready is allowed
pub ready_disposal : (facts : Facts) (day : Date) → facts.action ≡ Dispose → IsReadyForDisposal facts day → verdict_of facts day ≡ Allow
ready_disposal facts day d is = rw (is.decided, is.allowed, is.kept, d, is.unheld, is.due) (ready_allows day is.date is.has_come)
