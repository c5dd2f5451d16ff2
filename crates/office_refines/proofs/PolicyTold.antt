-- The rows of callers, and those of a policy that is installed.
use Rattle.office_refines.proofs.FirstLemmas.{◌≡◌, ℕ, ◌+◌, List, [], ◌∷◌, map, option_map, refl, ap, ◌∙◌, arith, ◌<◌, pos, Less, sym, bytes_eq, find, int_cmp, AllByRecursion, PolicyValue, or_stranger, Rule, CallerRow, RuleRow, caller_named, PlacesRise, with_policy, this_version, sorted_already, caller_row, rule_rows, office_row, picture, History, Change, Installed, with_changes, policy, policy_grown, is_less, same_classes, same_collection_rows, same_deposit_rows, same_due_rows, same_file_rows, same_hold_rows, by_Bool}
use Rattle.office_core.specs.declared.caller.Caller.{Caller}

-- ---- the role

pub role_told : (name : List ℕ) (cs : List Caller) → or_stranger (option_map (λ (c : CallerRow). c.role) (caller_named name (map caller_row cs))) ≡ or_stranger (option_map (λ (c : Caller). c.role) (find (λ c. bytes_eq c.name name) cs))
role_told name [] = refl
role_told name (c ∷ cs) = by_Bool (bytes_eq c.name name) (λ same. rw same refl) (λ other. rw other (role_told name cs))

-- ---- the places rise

all_above : (low place : ℕ) (rules : List Rule) → low < place → AllByRecursion (λ (r : RuleRow). int_cmp (pos low) r.place ≡ Less) (rule_rows place rules)
all_above low place [] less = tt
all_above low place (rule ∷ rules) less = (is_less low place less, all_above low (place + 1) rules (omega (arith, less)))

places_rise : (place : ℕ) (rules : List Rule) → PlacesRise (rule_rows place rules)
places_rise place [] = tt
places_rise place (rule ∷ rules) = (all_above place (place + 1) rules (omega arith), places_rise (place + 1) rules)

-- ---- a policy that is installed

module _ (h : History) (new : PolicyValue) where
  abbrev install : List Change
  install = Installed new ∷ []

  is_policy : policy (with_changes h install) ≡ new
  is_policy = policy_grown h install

  pub install_told : with_policy (map caller_row new.callers) (rule_rows 1 new.rules) (picture this_version h) ≡ picture this_version (with_changes h install)
  install_told = λ i. record {
    office = office_row this_version h ∷ [];
    callers = map caller_row (sym is_policy i).callers;
    rules = (sorted_already (λ (r : RuleRow). r.place) (rule_rows 1 new.rules) (places_rise 1 new.rules) ∙ ap (λ (p : PolicyValue). rule_rows 1 p.rules) (sym is_policy)) i;
    classes = sym (same_classes h install refl (λ n. refl)) i;
    collections = sym (same_collection_rows h install refl) i;
    deposits = sym (same_deposit_rows h install refl (λ n. refl)) i;
    dues = sym (same_due_rows h install refl (λ n. refl) refl (λ k. refl)) i;
    files = sym (same_file_rows h install refl (λ n. refl)) i;
    holds = sym (same_hold_rows h install refl (λ k. refl)) i;
  }
