-- Pairs of a kind are decided alike.
use Rattle.office_by_rows.proofs.Common.{◌≡◌, ℕ, ℤ, Bool, true, false, cond, ◌&&◌, ◌||◌, List, [], ◌∷◌, codes, bytes_eq, Some, None, is_none, refl, sym, ap, ◌∙◌, if◌then◌else◌, false_from_ne_true, true≢false, same_Some, Date, epoch_day, ◌>>=◌, RuleRow, Tables, decision_by, decision_for, if_any}
use Rattle.std.proofs.lemmas.Slice.Eq.{bytes_eq-Decides}
use Rattle.office_core.specs.Actions.{action_text}
use Rattle.office_core.specs.Verdicts.{denial_verdict}
use Rattle.office_core.specs.declared.action.Action.{Action}
use Rattle.office_history.specs.Refusals.{refusal_in}
use Rattle.office_rows.specs.Matching.{Attempt, counts_on, fits_attempt, fits_name, matching_rule}
use Rattle.office_by_rows.specs.Answers.{is_allowed_for}
use Rattle.office_by_rows.specs.Kinds.{AreSpelled, if_spelled, kind_of}

module _ (spelled : List ℕ → Bool) (text : List ℕ) (is : spelled text ≡ true) where
  -- a text that is spelled is no name that isn't
  unlike : (name : List ℕ) → spelled name ≡ false → bytes_eq text name ≡ false
  unlike name none = false_from_ne_true (bytes_eq text name) (λ e. true≢false (sym is ∙ ap spelled ((bytes_eq-Decides text name).0 e) ∙ none))

  -- so it fits all of these, or none
  fits_alike : (name other : List ℕ) → if_spelled spelled name ≡ if_spelled spelled other → fits_name text name ≡ fits_name text other
  fits_alike name other same = by (spelled name) (spelled other) refl refl same
    where
      by : (this that : Bool) → spelled name ≡ this → spelled other ≡ that → (if this then Some name else None) ≡ (if that then Some other else None) → fits_name text name ≡ fits_name text other
      by true true _ _ e = ap (fits_name text) (same_Some name other e)
      by false false none neither e = ap (λ b. bytes_eq text (codes "*") || b) (unlike name none ∙ sym (unlike other neither))
      by _ _ _ _ e = absurd cc

module _ (collections classes : List ℕ → Bool) (collection class other another : List ℕ) (same : kind_of collections classes collection class ≡ kind_of collections classes other another) where
  module _ (role action : List ℕ) (day : ℤ) where
    abbrev attempt : List ℕ → List ℕ → Attempt
    attempt collection class = record { role = role; action = action; collection = collection; class = class; day = day }

    attempts_alike : (r : RuleRow) → (collections r.collection ≡ true) × (classes r.class ≡ true) → fits_attempt (attempt collection class) r ≡ fits_attempt (attempt other another) r
    attempts_alike r are =
        let first = fits_alike collections r.collection are.0 collection other (ap (λ kind. kind.0) same) in
        let second = fits_alike classes r.class are.1 class another (ap (λ kind. kind.1) same) in
        λ i. fits_name r.role role && (fits_name r.action action && (first i && (second i && counts_on day r)))

    -- one rule matches both
    matched_alike : (rules : List RuleRow) → AreSpelled collections classes rules → matching_rule role action collection class day rules ≡ matching_rule role action other another day rules
    matched_alike [] are = refl
    matched_alike (r ∷ rules) are = λ i. cond (attempts_alike r are.0 i) (Some r) (matched_alike rules are.1 i)

  module _ (t : Tables) (are : AreSpelled collections classes t.rules) (role : List ℕ) (day : Date) (action : Action) where
    pub decided_alike : decision_for t role day action (Some collection) (Some class) ≡ decision_for t role day action (Some other) (Some another)
    decided_alike = ap (if_any decision_by) (matched_alike role (action_text action) (epoch_day day) t.rules are)

    pub allowed_alike : is_allowed_for t role day action collection class ≡ is_allowed_for t role day action other another
    allowed_alike = ap (λ decided. (decided >>= λ decision. Some (refusal_in (denial_verdict decision))) >>= λ denied. Some (is_none denied)) decided_alike
