-- What the statements on callers and rules do to the rows of an office.
use Rattle.office_tables.proofs.FirstLemmas.{◌≡◌, ℕ, List, [], ◌∷◌, ◌++◌, map, slice_get, option_map, true, false, Ok, refl, ap, sym, ◌∙◌, append-nil, append_assoc, slice_index_or as get_or, drop, length, ◌+◌, ◌<◌, AllByRecursion, at_drop_more, map-append, Null, Int, Text, Row, column, edit_of, Chosen, Given, col, cast_row, Database, State, Shown, Executes, Datatype, NotNull, Unique, ids_of, all_from, bytes_at, inserts, none_pass, few_named, typed_at, all_both, appended, cast_null, cast_int, obeys_rule, drops, office_schema, caller_table, rule_5_table, caller_tree, rule_tree, Tables, CallerRow, RuleRow, is_caller, caller_named, with_caller, with_rule, with_callers, with_rules, without_callers, without_rules, with_policy, IsOffice, Becomes, tables_of, caller_in, rule_in, shown_rule, of_callers, of_rules, idle, becomes, placed, role_text, rules_text, drop_callers_text, drop_rules_text, add_caller_text, add_rule_text, rule_terms, policy_meanings, all_given, finds_named, lists_all}

-- each name of a caller is a text
names : (db : Database) → IsOffice db → AllByRecursion (λ r. column r 1 ≡ Text (bytes_at r 1)) (db.trees caller_tree)
names db office = all_both (λ r typed present. typed_at office_schema db.trees caller_table r typed present 0 refl)
    (db.trees caller_tree) (of_callers (obeys_rule office.whole Datatype)) (of_callers (obeys_rule office.whole NotNull))

-- ---- reads

pub finds_role : (old new : State) (name : List ℕ) (rows : List Row) → IsOffice old.now → Shown role_text (Text name ∷ []) old new rows
    → (new.now ≡ old.now) × (option_map (λ (c : CallerRow). c.role) (caller_named name (tables_of old.now).callers) ≡ option_map (λ row. bytes_at row 0) (slice_get rows 0))
finds_role old new name rows office h =
    let named = names old.now office in
    let few = few_named 1 (old.now.trees caller_tree) (of_callers office.whole.shaped) named (of_callers (obeys_rule office.whole Unique)) name in
    finds_named old new rows office 1 policy_meanings.asks_role name named few caller_in (is_caller name) (λ r. refl) (λ (c : CallerRow). c.role) (λ row. bytes_at row 0) (λ r. refl) h

pub lists_rules : (old new : State) (rows : List Row) → IsOffice old.now → Shown rules_text [] old new rows
    → (new.now ≡ old.now) × ((tables_of old.now).rules ≡ map shown_rule rows)
lists_rules old new rows office h =
    lists_all old new rows office policy_meanings.asks_rules (of_rules office.whole.shaped) rule_in shown_rule (λ r. refl) h

-- ---- none of the old rows

pub drops_callers : (old new : State) (count : ℕ) → IsOffice old.now → Executes drop_callers_text [] old new (Ok count) → Becomes new.now (without_callers (tables_of old.now))
drops_callers old new count office h =
    let db = old.now.trees in
    let done = drops drop_callers_text [] old new office_schema office.whole.schema_is 1 caller_table refl idle (of_callers office.whole.shaped) [] (col 1 0 ∷ []) (λ r. true) (all_from (λ r. true ≡ true) (db caller_tree) (λ r there. refl)) policy_meanings.drop_callers_means (λ r. refl) count h in
    becomes old new (edit_of db caller_table (ids_of done.answer) Given 0 []) count _ office refl done.change _ (ap (λ rows. record (tables_of old.now) { callers = rows }) (ap (map caller_in) (done.made ∙ none_pass (λ r. false) (db caller_tree) (λ r there. refl))))

pub drops_rules : (old new : State) (count : ℕ) → IsOffice old.now → Executes drop_rules_text [] old new (Ok count) → Becomes new.now (without_rules (tables_of old.now))
drops_rules old new count office h =
    let db = old.now.trees in
    let done = drops drop_rules_text [] old new office_schema office.whole.schema_is 10 rule_5_table refl idle (of_rules office.whole.shaped) [] (col 1 0 ∷ []) (λ r. true) (all_from (λ r. true ≡ true) (db rule_tree) (λ r there. refl)) policy_meanings.drop_rules_means (λ r. refl) count h in
    becomes old new (edit_of db rule_5_table (ids_of done.answer) Given 0 []) count _ office refl done.change _ (ap (λ rows. record (tables_of old.now) { rules = rows }) (ap (map rule_in) (done.made ∙ none_pass (λ r. false) (db rule_tree) (λ r there. refl))))

-- ---- the new rows

pub adds_caller : (old new : State) (caller : CallerRow) (count : ℕ) → IsOffice old.now → Executes add_caller_text (Text caller.name ∷ Text caller.role ∷ []) old new (Ok count)
    → Becomes new.now (with_caller caller (tables_of old.now))
adds_caller old new caller count office h =
    let db = old.now.trees in
    let source : Row = Null ∷ Text caller.name ∷ Text caller.role ∷ [] in
    let edit = edit_of db caller_table [] Chosen 0 (source ∷ []) in
    let done = inserts add_caller_text (Text caller.name ∷ Text caller.role ∷ []) old new office_schema office.whole.schema_is 1 caller_table refl idle (all_given 2) 3 policy_meanings.add_caller_means refl refl count h in
    let cast_is : cast_row caller_table source ≡ Null ∷ Text caller.name ∷ Text caller.role ∷ [] = rw cast_null refl in
    let end = appended db caller_table source (Text caller.name ∷ Text caller.role ∷ []) (of_callers office.whole.shaped) cast_is in
    becomes old new edit count edit.news office refl done _ (ap (λ rows. record (tables_of old.now) { callers = rows }) (ap (map caller_in) end ∙ map-append caller_in (db caller_tree) _))

abbrev pub params_of : RuleRow → Row
params_of r = Int r.place ∷ Int r.effect ∷ Text r.role ∷ Text r.action ∷ Text r.collection ∷ Text r.class ∷ Int r.first ∷ Int r.last ∷ []

abbrev stored_of : RuleRow → Row
stored_of r = Null ∷ Int r.effect ∷ Text r.role ∷ Text r.action ∷ Text r.collection ∷ Text r.class ∷ Int r.first ∷ Int r.last ∷ []

pub adds_rule : (old new : State) (rule : RuleRow) (count : ℕ) → IsOffice old.now → Executes add_rule_text (params_of rule) old new (Ok count)
    → Becomes new.now (with_rule rule (tables_of old.now))
adds_rule old new rule count office h =
    let row : Row = Int rule.place ∷ stored_of rule in
    let edit = edit_of old.now.trees rule_5_table [] Chosen 0 (row ∷ []) in
    let done = inserts add_rule_text (params_of rule) old new office_schema office.whole.schema_is 10 rule_5_table refl idle rule_terms 9 policy_meanings.add_rule_means refl refl count h in
    let cast_is : cast_row rule_5_table row ≡ row = rw (cast_null, cast_int rule.place, cast_int rule.effect, cast_int rule.first, cast_int rule.last) refl in
    becomes old new edit count edit.news office refl done _ (ap (λ rows. record (tables_of old.now) { rules = rows })
    (placed rule_in (λ (r : RuleRow). r.place) (λ r. refl) old new rule_5_table row (stored_of rule) rule.place count edit.news (of_rules office.whole.shaped) cast_is done))

-- ---- all the new rows

pub callers_added : (cs : List CallerRow) (t : Tables) → with_callers cs t ≡ record t { callers = t.callers ++ cs }
callers_added [] t = ap (λ all. record t { callers = all }) (sym (append-nil t.callers))
callers_added (c ∷ cs) t = callers_added cs (with_caller c t) ∙ ap (λ all. record t { callers = all }) (append_assoc t.callers (c ∷ []) cs)

-- ---- one step of a loop

module _ {X : Type 0} (add : X → Tables → Tables) (add_each : List X → Tables → Tables) (in_turn : (x : X) (xs : List X) (t : Tables) → add_each (x ∷ xs) t ≡ add_each xs (add x t)) where
  pub next_added : (xs : List X) (i : ℕ) (x : X) → x ≡ get_or xs i x → i < length xs → (t : Tables) (now new : Database) → Becomes new (add x (tables_of now))
      → add_each (drop i xs) (tables_of now) ≡ add_each xs t → IsOffice new × (add_each (drop (i + 1) xs) (tables_of new) ≡ add_each xs t)
  next_added xs i x is low t now new added there =
      let rest = drop (i + 1) xs in
      let here : add_each (drop i xs) (tables_of now) ≡ add_each (get_or xs i x ∷ rest) (tables_of now) = at_drop_more (λ more. add_each more (tables_of now)) xs i x low in
      (added.office, ap (add_each rest) (added.are ∙ ap (λ y. add y (tables_of now)) is) ∙ sym (here ∙ in_turn (get_or xs i x) rest (tables_of now)) ∙ there)

-- ---- the whole policy

pub puts_policy : (t : Tables) (cs : List CallerRow) (rs : List RuleRow) (bare empty called new : Database) → Becomes bare (without_callers t) → Becomes empty (without_rules (tables_of bare))
    → Becomes called (with_callers cs (tables_of empty)) → Becomes new (with_rules rs (tables_of called)) → Becomes new (with_policy cs rs t)
puts_policy t cs rs bare empty called new first second third last =
    let is : tables_of called ≡ record t { callers = cs; rules = [] } =
    third.are ∙ callers_added cs (tables_of empty) ∙ ap (λ (u : Tables). record u { callers = u.callers ++ cs }) (second.are ∙ ap without_rules first.are) in
    record { office = last.office; are = last.are ∙ ap (with_rules rs) is }
