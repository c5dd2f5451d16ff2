-- Reading a tree step by step gives its first fault, or the policy that it spells.
use Rattle.office_core.proofs.Common.{◌≡◌, ℕ, Bool, true, false, ◌||◌, List, [], ◌∷◌, length, Option, Some, None, Ok, Err, nat_lt, option_map, refl, if◌then◌else◌, Members, max_rules, max_callers, first_some, answer_if, PolicyValue, policy_unless, faults, policy_in_tree, callers_of, rules_of, bad_rule, has_bad_version, has_unknown_key, has_bad_caller, rules_or, policy_within_limits, read_members, BadVersion, UnknownKey, BadCaller, BadRule, TooMany, Rule, Caller}
use Rattle.bag_text.specs.Answers.{◌>>=◌}

-- the last fault, or none
last_fault : (many : Bool) (contents : PolicyValue) → (if many then Err TooMany else Ok contents) ≡ policy_unless contents (first_some (answer_if many TooMany ∷ []))
last_fault true contents = refl
last_fault false contents = refl

-- the steps find the first of the faults
first_fault : (version unknown bad : Bool) (callers : List Caller) (number : Option ℕ) (rules : List Rule)
    → (if version then Err BadVersion else if unknown then Err UnknownKey else ((if bad then Err BadCaller else Ok callers) >>= λ read. rules_or rules number >>= λ ordered. policy_within_limits read ordered))
    ≡ policy_unless (record { callers = callers; rules = rules }) (first_some (answer_if version BadVersion ∷ answer_if unknown UnknownKey ∷ answer_if bad BadCaller ∷ option_map BadRule number ∷ answer_if (nat_lt max_rules (length rules) || nat_lt max_callers (length callers)) TooMany ∷ []))
first_fault true unknown bad callers number rules = refl
first_fault false true bad callers number rules = refl
first_fault false false true callers number rules = refl
first_fault false false false callers (Some number) rules = refl
first_fault false false false callers None rules = last_fault (nat_lt max_rules (length rules) || nat_lt max_callers (length callers)) (record { callers = callers; rules = rules })

pub contents_is : (tree : Members) → read_members tree ≡ policy_unless (policy_in_tree tree) (first_some (faults tree))
contents_is tree = first_fault (has_bad_version tree) (has_unknown_key tree) (has_bad_caller tree) (callers_of tree) (bad_rule tree) (rules_of tree)
