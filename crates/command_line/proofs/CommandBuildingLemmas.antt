-- What a command that takes arguments has, once it is built.
use Rattle.command_line.proofs.Common.{zero, suc, ◌≡◌, ◌∙◌, ◌<◌, ◌++◌, ap, ap₂, sym, subst, ℕ, Bool, true, false, List, [], ◌∷◌, length, is_some, refl, inl, inr, arith, fold, take, get_or, ◌+◌, codes, Ok, Err, Result, IfOk, All, list_any, get_or as slice_index_or, bytes_eq, and_parts, not-true, false≢true, AddsArg, AddsInTurn, App, FailsBy, HasMatchesOf, IsParsedFrom, Rule, Text, app_of, fault_of, first_of, first_value, found_of, is_simple, is_simple_and_free, matches_of, with_rule, Error, Arg, Command, ArgMatches, command_of, value_under, AreReadBy, IsReadBy, TakesArguments, are_names, is_own_name, names_of, needed_names, rule_for, rules_for}
use Rattle.std.proofs.lemmas.List.{map-append, take_more}
use Rattle.std.proofs.lemmas.List.Elements.{All-cons, All-nil}
use Rattle.std.proofs.lemmas.Slice.Eq.{bytes_eq-Decides}
use Rattle.clap.specs.Built.{FitsChain, HasDistinctIds, IsAuto}
use Rattle.clap.proofs.CallerLemmas.{required_in_chain}
use Rattle.clap.proofs.WalkLemmas.{first_value-rows}
use Rattle.command_line.specs.declared.words.Argument.{Argument}

-- ---- the rules that clap reads

added_rules : (old new : Command) (rules : List Rule) (args : List Arg) → AreReadBy rules args → AddsInTurn AddsArg old args new
    → app_of new ≡ fold with_rule (app_of old) rules
added_rules old new [] [] read added = ap app_of (sym added)
added_rules old new [] (arg ∷ args) read added = absurd read
added_rules old new (rule ∷ rules) [] read added = absurd read
added_rules old new (rule ∷ rules) (arg ∷ args) read added =
    added_rules added.0 new rules args read.1 added.2
    ∙ ap (λ (start : App). fold with_rule start rules) (added.1.shape read.0.own ∙ ap (with_rule (app_of old)) read.0.rule)

-- what is built is the command that takes the arguments
pub wanted_app : (name : Text) (rules : List Rule) (command : Command) → TakesArguments name rules command → app_of command ≡ command_of name rules
wanted_app name rules command takes =
    added_rules takes.start command rules takes.args takes.read takes.added
    ∙ ap (λ (start : App). fold with_rule start rules) takes.app

-- ---- the rules and the arguments, place by place

-- one argument more
pub one_more : (rules : List Rule) (args : List Arg) (rule : Rule) (arg : Arg) → AreReadBy rules args → IsReadBy rule arg → AreReadBy (rules ++ rule ∷ []) (args ++ arg ∷ [])
one_more [] [] rule arg read is = (is, tt)
one_more [] (a ∷ args) rule arg read is = absurd read
one_more (r ∷ rules) [] rule arg read is = absurd read
one_more (r ∷ rules) (a ∷ args) rule arg read is = (read.0, one_more rules args rule arg read.1 is)

-- one step further in a list of arguments
pub rules_so_far : (arguments : List Argument) (i : ℕ) (d : Argument) (args : List Arg) (arg : Arg) → i < length arguments
    → AreReadBy (rules_for (take i arguments)) args → IsReadBy (rule_for (get_or arguments i d)) arg → AreReadBy (rules_for (take (i + 1) arguments)) (args ++ arg ∷ [])
rules_so_far arguments i d args arg lt read is =
    let more : rules_for (take (i + 1) arguments) ≡ rules_for (take i arguments) ++ rule_for (get_or arguments i d) ∷ [] =
    ap rules_for (take_more arguments i d lt) ∙ map-append rule_for (take i arguments) (get_or arguments i d ∷ []) in
    subst (λ (rules : List Rule). AreReadBy rules (args ++ arg ∷ [])) (sym more) (one_more (rules_for (take i arguments)) args (rule_for (get_or arguments i d)) arg read is)

as_many : (rules : List Rule) (args : List Arg) → AreReadBy rules args → length args ≡ length rules
as_many [] [] read = refl
as_many [] (a ∷ args) read = absurd read
as_many (r ∷ rules) [] read = absurd read
as_many (r ∷ rules) (a ∷ args) read = ap suc (as_many rules args read.1)

read_at : (rules : List Rule) (args : List Arg) → AreReadBy rules args → (k : ℕ) (e : Rule) (d : Arg) → k < length rules → IsReadBy (slice_index_or rules k e) (slice_index_or args k d)
read_at [] args read k e d lt = absurd (omega arith)
read_at (r ∷ rules) [] read k e d lt = absurd read
read_at (r ∷ rules) (a ∷ args) read zero e d lt = read.0
read_at (r ∷ rules) (a ∷ args) read (suc k) e d lt = read_at rules args read.1 k e d (omega arith)

-- ---- names that are good

own_name_at : (rules : List Rule) → are_names (names_of rules) ≡ true → (k : ℕ) (e : Rule) → k < length rules → is_own_name (slice_index_or rules k e).id ≡ true
own_name_at [] good k e lt = absurd (omega arith)
own_name_at (r ∷ rules) good zero e lt = (and_parts _ _ (and_parts _ _ good).0).0
own_name_at (r ∷ rules) good (suc k) e lt = own_name_at rules (and_parts _ _ good).1 k e (omega arith)

same_bytes : (x y : Text) → bytes_eq x y ≡ true → bytes_eq y x ≡ true
same_bytes x y same = (bytes_eq-Decides y x).1 (sym ((bytes_eq-Decides x y).0 same))

any_name : (name : Text) (rules : List Rule) (k : ℕ) (e : Rule) → k < length rules → bytes_eq name (slice_index_or rules k e).id ≡ true
    → list_any (bytes_eq name) (names_of rules) ≡ true
any_name name [] k e lt same = absurd (omega arith)
any_name name (r ∷ rules) zero e lt same = rw same refl
any_name name (r ∷ rules) (suc k) e lt same = go (any_name name rules k e (omega arith) same) (bytes_eq name r.id) refl
  where
    go : list_any (bytes_eq name) (names_of rules) ≡ true → (b : Bool) → bytes_eq name r.id ≡ b → list_any (bytes_eq name) (names_of (r ∷ rules)) ≡ true
    go later true is = rw is refl
    go later false is = rw is later

once : (rule : Rule) (rules : List Rule) → are_names (names_of (rule ∷ rules)) ≡ true → (k : ℕ) (e : Rule) → k < length rules → bytes_eq rule.id (slice_index_or rules k e).id ≡ true → ⊥
once rule rules good k e lt same =
    let none : list_any (bytes_eq rule.id) (names_of rules) ≡ false = not-true _ (and_parts _ _ (and_parts _ _ good).0).1 in
    false≢true (sym none ∙ any_name rule.id rules k e lt same)

distinct_at : (rules : List Rule) → are_names (names_of rules) ≡ true → (j k : ℕ) (d e : Rule) → j < length rules → k < length rules
    → bytes_eq (slice_index_or rules j d).id (slice_index_or rules k e).id ≡ true → j ≡ k
distinct_at [] good j k d e low high same = absurd (omega arith)
distinct_at (r ∷ rules) good zero zero d e low high same = refl
distinct_at (r ∷ rules) good zero (suc k) d e low high same = absurd (once r rules good k e (omega arith) same)
distinct_at (r ∷ rules) good (suc j) zero d e low high same = absurd (once r rules good j d (omega arith) (same_bytes _ r.id same))
distinct_at (r ∷ rules) good (suc j) (suc k) d e low high same = ap suc (distinct_at rules (and_parts _ _ good).1 j k d e (omega arith) (omega arith) same)

-- ---- what a parse that succeeds has found

-- clap takes such an argument for no flag of its own
not_auto : (rule : Rule) → is_own_name rule.id ≡ true → (arg : Arg) → IsReadBy rule arg → IsAuto arg → ⊥
not_auto rule own arg is (inl help) =
    let named : rule.id ≡ codes "help" = sym is.id ∙ help in
    let wrong : is_own_name (codes "help") ≡ true = subst (λ (t : Text). is_own_name t ≡ true) named own in
    false≢true wrong
not_auto rule own arg is (inr version) =
    let named : rule.id ≡ codes "version" = sym is.id ∙ version in
    let wrong : is_own_name (codes "version") ≡ true = subst (λ (t : Text). is_own_name t ≡ true) named own in
    false≢true wrong

not_empty : (rule : Rule) → is_own_name rule.id ≡ true → (arg : Arg) → IsReadBy rule arg → arg.id.now ≡ [] → ⊥
not_empty rule own arg is empty =
    let named : rule.id ≡ [] = sym is.id ∙ empty in
    let wrong : is_own_name [] ≡ true = subst (λ (t : Text). is_own_name t ≡ true) named own in
    false≢true wrong

-- a rule where there is an argument
some_rule : (rules : List Rule) (k : ℕ) → k < length rules → Rule
some_rule [] k lt = absurd (omega arith)
some_rule (r ∷ rules) k lt = r

fits : (rules : List Rule) (args : List Arg) → AreReadBy rules args → are_names (names_of rules) ≡ true → All FitsChain args
fits rules args read good k d lt =
    let low : k < length rules = subst (λ (n : ℕ). k < n) (as_many rules args read) lt in
    let e = some_rule rules k low in
    let is = read_at rules args read k e d low in
    let own = own_name_at rules good k e low in (
      is.plain,
      is.own,
      not_empty (slice_index_or rules k e) own (slice_index_or args k d) is,
      not_auto (slice_index_or rules k e) own (slice_index_or args k d) is,
    )

distinct : (rules : List Rule) (args : List Arg) → AreReadBy rules args → are_names (names_of rules) ≡ true → HasDistinctIds args
distinct rules args read good j k d e low high same =
    let count = as_many rules args read in
    let under : j < length rules = subst (λ (n : ℕ). j < n) count low in
    let within : k < length rules = subst (λ (n : ℕ). k < n) count high in
    let r = some_rule rules j under in
    let left = (read_at rules args read j r e under).id in
    let right = (read_at rules args read k r d within).id in
    distinct_at rules good j k r r under within (sym (ap₂ bytes_eq left right) ∙ same)

-- what holds of the name of each rule that is required holds of all names that are needed
needed : (P : Text → Type 0) (rules : List Rule) → ((k : ℕ) (e : Rule) → k < length rules → (slice_index_or rules k e).required ≡ true → P (slice_index_or rules k e).id)
    → All P (needed_names rules)
needed P [] each = All-nil P
needed P (rule ∷ rules) each = go (needed P rules (λ k e lt required. each (suc k) e (omega arith) required)) rule.required refl
  where
    go : All P (needed_names rules) → (b : Bool) → rule.required ≡ b → All P (needed_names (rule ∷ rules))
    go others true is = rw is (All-cons P rule.id (needed_names rules) (each 0 rule (omega arith) is) others)
    go others false is = rw is others

-- each argument that has to stand has a value
pub needed_is_given : (name : Text) (rules : List Rule) (command : Command) (matches : ArgMatches) → TakesArguments name rules command → are_names (names_of rules) ≡ true
    → IsParsedFrom command matches → All (λ (wanted : Text). is_some (first_value (found_of matches) wanted) ≡ true) (needed_names rules)
needed_is_given name rules command matches takes good parsed =
    needed (λ (wanted : Text). is_some (first_value (found_of matches) wanted) ≡ true) rules one
  where
    some_arg : (args : List Arg) (k : ℕ) → k < length args → Arg
    some_arg [] k lt = absurd (omega arith)
    some_arg (a ∷ args) k lt = a

    one : (k : ℕ) (e : Rule) → k < length rules → (slice_index_or rules k e).required ≡ true
        → is_some (first_value (found_of matches) (slice_index_or rules k e).id) ≡ true
    one k e lt required =
        let count = as_many rules takes.args takes.read in
        let low : k < length takes.args = subst (λ (n : ℕ). k < n) (sym count) lt in
        let d = some_arg takes.args k low in
        let is = read_at rules takes.args takes.read k e d lt in
        let has = required_in_chain takes.start command takes.args k d matches takes.added takes.no_args takes.no_groups takes.no_globals takes.negates
        (fits rules takes.args takes.read good) (distinct rules takes.args takes.read good) low (is.takes required) parsed in
        subst (λ (t : Text). is_some (first_value (found_of matches) t) ≡ true) is.id has

-- ---- the same of what a parse answers

pub given_by_words : (name : Text) (rules : List Rule) (command : Command) (r : Result ArgMatches Error) → TakesArguments name rules command → are_names (names_of rules) ≡ true
    → IfOk r (IsParsedFrom command) → IfOk r (λ matches. All (λ (wanted : Text). is_some (first_value (found_of matches) wanted) ≡ true) (needed_names rules))
given_by_words name rules command (Ok matches) takes good parsed = needed_is_given name rules command matches takes good parsed
given_by_words name rules command (Err e) takes good parsed = tt

pub values_by_words : (a b : App) (words : List Text) (r : Result ArgMatches Error) → a ≡ b → is_simple_and_free b ≡ true → IfOk r (HasMatchesOf a words)
    → IfOk r (λ matches. (wanted : Text) → first_value (found_of matches) wanted ≡ value_under b wanted words)
values_by_words a b words (Ok matches) same simple has = λ wanted.
    first_value-rows (found_of matches) wanted
    ∙ ap (first_of wanted) ((has (ap is_simple same ∙ (and_parts _ _ simple).0)).0 ∙ ap (λ (c : App). matches_of c words) same)
values_by_words a b words (Err e) same simple has = tt

pub fails_by_words : {T : Type 0} (a b : App) (words : List Text) (r : Result T Error) → a ≡ b → is_simple_and_free b ≡ true
    → (is_simple_and_free a ≡ true → FailsBy (fault_of a words) r) → FailsBy (fault_of b words) r
fails_by_words a b words r same simple fails =
    subst (λ (c : App). FailsBy (fault_of c words) r) same (fails (ap is_simple_and_free same ∙ simple))
