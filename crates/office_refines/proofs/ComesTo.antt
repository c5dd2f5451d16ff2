-- What values of rows in their ranges come to.
use Rattle.office_refines.proofs.Common.{◌≡◌, ℕ, ℤ, pos, int_le, ◌&&◌, ◌||◌, not, ◌≤◌, ◌≤ℤ◌, true, List, [], ◌∷◌, Option, Some, None, IfSome, is_some, refl, sym, ap, ◌∙◌, inl, inr, rules, bytes_eq, codes, AllByRecursion, list_all, or_right, bytes_eq-Decides, action_of, action_text, max_rules, IsDayNumber, first_day_number, last_day_number, answer_if, IsName, is_name, or_stranger, Action, HoldRow, RuleRow, Tables, effect_number, IsActionText, IsHoldRow, IsPatternText, IsRuleRow, effect_of, is_action_pattern, is_pattern, is_day_or_none, is_over, is_rule, role_by, between, place_is}
use Rattle.office_core.specs.declared.rule.Effect.{Effect}
use Rattle.office_core.specs.declared.rule.Effect.TheVariants.{Allow, Deny}
use Rattle.office_core.specs.declared.action.Action.TheVariants as acts

-- ---- the rules

pub role_is : (caller : List ℕ) (role : Option (List ℕ)) → IfSome role (λ r. IsName caller × IsName r) → role_by caller role ≡ Some (or_stranger role)
role_is caller None names = refl
role_is caller (Some role) names = λ i. answer_if (names.0 i && names.1 i) role

pattern_is : (text : List ℕ) → IsPatternText text → is_pattern text ≡ true
pattern_is text (inl star) = ap (λ b. b || is_name text) ((bytes_eq-Decides text (codes "*")).1 star)
pattern_is text (inr named) = or_right (bytes_eq text (codes "*")) (is_name text) named

pub effect_is : (number : ℤ) (effect : Effect) → effect_number effect ≡ number → effect_of number ≡ Some effect
effect_is number Allow e = ap effect_of (sym e)
effect_is number Deny e = ap effect_of (sym e)

pub action_known : (action : Action) → is_some (action_of (action_text action)) ≡ true
action_known acts.Class = refl
action_known _ = refl

action_pattern_is : (text : List ℕ) → IsActionText text → is_action_pattern text ≡ true
action_pattern_is text (inl star) = ap (λ b. b || is_some (action_of text)) ((bytes_eq-Decides text (codes "*")).1 star)
action_pattern_is text (inr known) = or_right (bytes_eq text (codes "*")) (is_some (action_of text)) (ap (λ x. is_some (action_of x)) known.1 ∙ action_known known.0)

no_less : (a b : ℤ) → a ≤ℤ b → int_le a b ≡ true
no_less a b le = search (rules, le)

pub rule_is : (row : RuleRow) (rule : ℕ) → pos rule ≡ row.place → 1 ≤ rule → rule ≤ max_rules → IsRuleRow row → is_rule row ≡ true
rule_is row rule is low high r =
    λ i. place_is row.place rule is low high i
    && (pattern_is row.role r.role i && (action_pattern_is row.action r.action i && (pattern_is row.collection r.collection i && (pattern_is row.class r.class i
    && (no_less first_day_number row.first r.first.0 i && (no_less row.first row.last r.in_turn i && no_less row.last last_day_number r.last.1 i))))))

-- ---- holds

on_day : (released : Option ℤ) → IfSome released IsDayNumber → is_day_or_none released ≡ true
on_day None is = refl
on_day (Some number) is = between first_day_number last_day_number number is.0 is.1

-- each hold was released on a day of the office or not at all, whichever deposit it is over
pub on_days : (t : Tables) (n : ℕ) (collection class : List ℕ) (hs : List HoldRow) → AllByRecursion (IsHoldRow t) hs → list_all (λ h. not (is_over n collection class h) || is_day_or_none h.released) hs ≡ true
on_days t n collection class [] all = refl
on_days t n collection class (h ∷ hs) all = λ i. or_right (not (is_over n collection class h)) (is_day_or_none h.released) (on_day h.released all.0.released) i && on_days t n collection class hs all.1 i
