-- What the rows of a legal history tell of it: all that the office decides by.
use Rattle.office_history.proofs.FirstLemmas.{one-add, ◌≡◌, ℕ, zero, suc, ◌+◌, ◌<◌, ◌≤◌, ◌||◌, ℤ, pos, negsuc, Bool, true, false, List, [], ◌∷◌, ◌++◌, length, map, filter, Option, Some, None, option_map, unwrap_or, slice_get, is_none, is_some, refl, sym, ap, subst, ◌∙◌, true≢false, arith, append-nil, cond, if◌then◌else◌, bytes_eq, codes, unsigned_abs, AllByRecursion, filter_map, flat_map, list_any, range_with_len, cons_option, option_or, option_map_or, Decides-int_eq, filter_map-append, same_Some, slice_get-map, slice_get_past, slice_get_within, bytes_eq-Decides, or-true, epoch_day_injective, Date, epoch_day, File, same_date, is_name, IsName, Action, Caller, ActionPattern, Effect, Allow, Deny, Pattern, Rule, CallerRow, RuleRow, ClassRow, OfficeRow, DepositRow, FileRow, HoldRow, Tables, first_said, last_said, item_numbered, numbers, distinct_after, in_first_places, History, Change, DefinedClass, Target, OnDeposit, OnCollection, OnClass, Deposit, Hold, policy, years_in, years_of, deposits, deposit_numbered, destruction_day, holds, hold_numbered, release_day, effect_number, pattern_text, action_pattern_text, caller_row, rule_row, rule_rows, years_number, years_back, class_row, class_in, class_rows, description_of, deposit_row, row_of_deposit, file_row, file_rows, held_deposit, held_collection, held_class, hold_row, row_of_hold, picture, files_of, IsNamed, HasNames, IsLegal, other_way, all_weaker, outline, Alike, or_none, some_behind, by_Bool, by_Option, false_from_ne_true}
use Rattle.std.specs.Ordering.{int_eq}
use Rattle.office_core.specs.Actions.{action_text, action_of}
use Rattle.office_core.specs.declared.action.Action.TheVariants as acts
use Rattle.office_core.specs.declared.rule.ActionPattern.TheVariants as action_patterns
use Rattle.office_core.specs.declared.rule.Pattern.TheVariants as patterns
use Rattle.office_history.proofs.AlikeAnswers.{among_first_places}
use Rattle.office_history.proofs.LegalReadings.{legal_policy, none_gone, none_released}

-- ---- lists by their places

pub same_list : {A : Type 0} (xs ys : List A) → ((i : ℕ) → slice_get xs i ≡ slice_get ys i) → xs ≡ ys
same_list [] [] e = refl
same_list (x ∷ xs) (y ∷ ys) e =
    let first : x ≡ y = same_Some _ _ (e 0) in
    let rest : xs ≡ ys = same_list xs ys (λ i. e (suc i)) in
    λ i. first i ∷ rest i
same_list _ _ e = let wrong = e 0 in absurd cc

pub there_is : {A : Type 0} (xs : List A) (i : ℕ) → i < length xs → (x : A) × (slice_get xs i ≡ Some x)
there_is [] i lt = absurd (omega (arith, lt))
there_is (x ∷ xs) zero lt = (x, refl)
there_is (x ∷ xs) (suc i) lt = there_is xs i (omega (arith, lt))

-- what is said of numbers in a row, where something is said of each and of none after
row_at : {R : Type 0} (f : ℕ → Option R) (len start : ℕ) → ((i : ℕ) → i < len → (r : R) × (f (start + i) ≡ Some r)) → ((i : ℕ) → len ≤ i → f (start + i) ≡ None)
    → (j : ℕ) → slice_get (filter_map f (range_with_len start len)) j ≡ f (start + j)
row_at f zero start there past j = sym (past j (omega arith))
row_at f (suc len) start there past j =
    ap (λ o. slice_get (cons_option o (filter_map f (range_with_len (start + 1) len))) j) first
    ∙ at j (λ i.
    row_at f len (start + 1)
    (λ l lt. let t = there (suc l) (omega (arith, lt)) in (t.0, ap f (shifted l) ∙ t.1))
    (λ l le. ap f (shifted l) ∙ past (suc l) (omega (arith, le)))
    i)
  where
    shifted : (i : ℕ) → start + 1 + i ≡ start + suc i
    shifted i = omega arith

    first : f start ≡ Some (there 0 (omega arith)).0
    first = let same : start ≡ start + 0 = omega arith in ap f same ∙ (there 0 (omega arith)).1

    at : (j : ℕ) → ((i : ℕ) → slice_get (filter_map f (range_with_len (start + 1) len)) i ≡ f (start + 1 + i))
        → slice_get ((there 0 (omega arith)).0 ∷ filter_map f (range_with_len (start + 1) len)) j ≡ f (start + j)
    at zero rest = sym (there 0 (omega arith)).1
    at (suc i) rest = rest i ∙ ap f (shifted i)

-- the row of a number is what is said of the item of that number
pub told_at : {A R : Type 0} (xs : List A) (tell : ℕ → A → R) (n : ℕ) → item_numbered (filter_map (λ m. option_map (tell m) (item_numbered xs m)) (numbers (length xs))) n ≡ option_map (tell n) (item_numbered xs n)
told_at {A} {R} xs tell zero = refl
told_at {A} {R} xs tell (suc j) = row_at (λ m. option_map (tell m) (item_numbered xs m)) (length xs) 1 there past j ∙ ap (λ m. option_map (tell m) (item_numbered xs m)) (one-add j)
  where
    there : (i : ℕ) → i < length xs → (r : R) × (option_map (tell (1 + i)) (item_numbered xs (1 + i)) ≡ Some r)
    there i lt = let x = there_is xs i lt in (tell (suc i) x.0, ap (λ m. option_map (tell m) (item_numbered xs m)) (one-add i) ∙ ap (option_map (tell (suc i))) x.1)

    past : (i : ℕ) → length xs ≤ i → option_map (tell (1 + i)) (item_numbered xs (1 + i)) ≡ None
    past i le = ap (λ m. option_map (tell m) (item_numbered xs m)) (one-add i) ∙ ap (option_map (tell (suc i))) (slice_get_past xs i le)

-- ---- days

pub same_day : (a b : Date) → epoch_day a ≡ epoch_day b → a ≡ b
same_day a b e = let parts = epoch_day_injective a b e in same_date a b parts.0 parts.1 parts.2

pub same_days : (a b : Option Date) → option_map epoch_day a ≡ option_map epoch_day b → a ≡ b
same_days None None e = refl
same_days (Some a) (Some b) e = ap Some (same_day a b (same_Some _ _ e))
same_days _ _ e = absurd cc

-- ---- deposits

same_row : (h k : History) (version : ℤ) → picture version h ≡ picture version k → (n : ℕ) → row_of_deposit h n ≡ row_of_deposit k n
same_row h k version e n =
    sym (told_at (deposits h) (deposit_row h) n) ∙ ap (λ (t : Tables). item_numbered t.deposits n) e ∙ told_at (deposits k) (deposit_row k) n

outline_by_row : (h k : History) (n : ℕ) (x y : Option (Date × Deposit)) → option_map (deposit_row h n) x ≡ option_map (deposit_row k n) y → option_map outline x ≡ option_map outline y
outline_by_row h k n None None e = refl
outline_by_row h k n (Some x) (Some y) e =
    let s : deposit_row h n x ≡ deposit_row k n y = same_Some _ _ e in
    let day : x.0 ≡ y.0 = same_day x.0 y.0 (ap (λ (r : DepositRow). r.deposited) s) in
    let closed : x.1.description.closed ≡ y.1.description.closed = same_day x.1.description.closed y.1.description.closed (ap (λ (r : DepositRow). r.closed) s) in
    let one : outline x ≡ outline y = λ i. record {
      day = day i;
      description = description_of (s i) (closed i);
      files = unsigned_abs (s i).files;
      bytes = unsigned_abs (s i).bytes;
    } in
    ap Some one
outline_by_row h k n _ _ e = absurd cc

gone_by_row : (h k : History) → IsLegal h → IsLegal k → (n : ℕ) (x y : Option (Date × Deposit)) → deposit_numbered h n ≡ x → deposit_numbered k n ≡ y
    → option_map (deposit_row h n) x ≡ option_map (deposit_row k n) y → destruction_day h n ≡ destruction_day k n
gone_by_row h k legal_h legal_k n None None a b e = none_gone h legal_h n a ∙ sym (none_gone k legal_k n b)
gone_by_row h k legal_h legal_k n (Some x) (Some y) a b e =
    let s : deposit_row h n x ≡ deposit_row k n y = same_Some _ _ e in
    same_days (destruction_day h n) (destruction_day k n) (ap (λ (r : DepositRow). r.gone) s)
gone_by_row h k legal_h legal_k n _ _ a b e = absurd cc

-- ---- the files of deposits that are kept

abbrev pub own : ℕ → FileRow → Option File
own n r = if int_eq r.deposit (pos n) then Some (record { path = r.path; content = r.content }) else None

own_files : (n : ℕ) (files : List File) → filter_map (own n) (map (file_row n) files) ≡ files
own_files n [] = refl
own_files n (f ∷ files) = λ i. cons_option (cond ((Decides-int_eq (pos n) (pos n)).1 refl i) (Some f) None) (own_files n files i)

other_files : (n m : ℕ) (files : List File) → int_eq (pos m) (pos n) ≡ false → filter_map (own n) (map (file_row m) files) ≡ []
other_files n m [] other = refl
other_files n m (f ∷ files) other = λ i. cons_option (cond (other i) (Some f) None) (other_files n m files other i)

-- numbers that differ are different numbers of rows
pub different : (a b : ℕ) → ¬ (a ≡ b) → int_eq (pos a) (pos b) ≡ false
different a b apart = false_from_ne_true (int_eq (pos a) (pos b)) (λ same. apart (ap unsigned_abs ((Decides-int_eq (pos a) (pos b)).0 same)))

-- the rows of the files of these deposits
abbrev rows_of : (ℕ → List File) → List ℕ → List FileRow
rows_of files numbers = flat_map (λ n. map (file_row n) (files n)) numbers

own_first : (files : ℕ → List File) (n m : ℕ) (numbers : List ℕ) → filter_map (own n) (rows_of files (m ∷ numbers)) ≡ filter_map (own n) (map (file_row m) (files m)) ++ filter_map (own n) (rows_of files numbers)
own_first files n m numbers = filter_map-append (own n) (map (file_row m) (files m)) (rows_of files numbers)

-- of numbers above, no row is the deposit's
none_above : (files : ℕ → List File) (p : ℕ → Bool) (n len start : ℕ) → n < start → filter_map (own n) (rows_of files (filter p (range_with_len start len))) ≡ []
none_above files p n zero start lt = refl
none_above files p n (suc len) start lt =
    let rest = none_above files p n len (start + 1) (omega (arith, lt)) in
    by_Bool (p start)
    (λ passes. rw passes (own_first files n start (filter p (range_with_len (start + 1) len)) ∙ (λ i. other_files n start (files start) (different start n (λ same. omega (arith, same, lt))) i ++ rest i)))
    (λ fails. rw fails rest)

-- of numbers among which the deposit's is, the deposit's rows are its files
mine : (files : ℕ → List File) (p : ℕ → Bool) (len j start n : ℕ) → n ≡ start + j → j < len → p n ≡ true → filter_map (own n) (rows_of files (filter p (range_with_len start len))) ≡ files n
mine files p zero j start n is lt stays = absurd (omega (arith, lt))
mine files p (suc len) zero start n is lt stays =
    let at : start ≡ n = omega (arith, is) in
    let here : p start ≡ true = subst (λ m. p m ≡ true) (sym at) stays in
    let own_rows : filter_map (own n) (map (file_row start) (files start)) ≡ files n = subst (λ m. filter_map (own n) (map (file_row m) (files m)) ≡ files n) (sym at) (own_files n (files n)) in
    let rest = filter p (range_with_len (start + 1) len) in
    ap (λ b. filter_map (own n) (rows_of files (cond b (start ∷ rest) rest))) here
    ∙ own_first files n start rest
    ∙ (λ i. own_rows i ++ none_above files p n len (start + 1) (omega (arith, is)) i)
    ∙ append-nil (files n)
mine files p (suc len) (suc j) start n is lt stays =
    let rest = mine files p len j (start + 1) n (omega (arith, is)) (omega (arith, lt)) stays in
    by_Bool (p start)
    (λ passes. rw passes (own_first files n start (filter p (range_with_len (start + 1) len)) ∙ (λ i. other_files n start (files start) (different start n (λ same. omega (arith, same, is))) i ++ rest i)))
    (λ fails. rw fails rest)

-- the files of a kept deposit, read off the rows
pub files_told : (h : History) (n : ℕ) (found : Date × Deposit) → deposit_numbered h n ≡ Some found → destruction_day h n ≡ None → filter_map (own n) (file_rows h) ≡ files_of h n
files_told h zero found there stays = absurd cc
files_told h (suc j) found there stays =
    mine (files_of h) (λ m. is_none (destruction_day h m)) (length (deposits h)) j 1 (suc j) (omega arith) (slice_get_within (deposits h) j found there) (ap is_none stays)

same_files : (h k : History) (version : ℤ) → picture version h ≡ picture version k → (n : ℕ) (x y : Option (Date × Deposit)) → deposit_numbered h n ≡ x → deposit_numbered k n ≡ y
    → option_map (deposit_row h n) x ≡ option_map (deposit_row k n) y → destruction_day h n ≡ None → destruction_day k n ≡ None → files_of h n ≡ files_of k n
same_files h k version e n None None a b rows kept_h kept_k =
    ap (λ found. option_map_or (λ f. f.1.bag) found []) a ∙ sym (ap (λ found. option_map_or (λ f. f.1.bag) found []) b)
same_files h k version e n (Some x) (Some y) a b rows kept_h kept_k =
    sym (files_told h n x a kept_h) ∙ ap (λ (t : Tables). filter_map (own n) t.files) e ∙ files_told k n y b kept_k
same_files h k version e n _ _ a b rows kept_h kept_k = absurd cc

-- ---- holds

target_of : Option ℤ → Option (List ℕ) → Option (List ℕ) → Target
target_of (Some n) collection class = OnDeposit (unsigned_abs n)
target_of None (Some collection) class = OnCollection collection
target_of None None (Some class) = OnClass class
target_of None None None = OnCollection []

target_told : (target : Target) → target_of (held_deposit target) (held_collection target) (held_class target) ≡ target
unfolding target_of
target_told (OnDeposit n) = refl
target_told _ = refl

same_hold_row : (h k : History) (version : ℤ) → picture version h ≡ picture version k → (n : ℕ) → row_of_hold h n ≡ row_of_hold k n
same_hold_row h k version e n =
    sym (told_at (holds h) (hold_row h) n) ∙ ap (λ (t : Tables). item_numbered t.holds n) e ∙ told_at (holds k) (hold_row k) n

hold_by_row : (h k : History) (n : ℕ) (x y : Option (Date × Hold)) → option_map (hold_row h n) x ≡ option_map (hold_row k n) y → x ≡ y
hold_by_row h k n None None e = refl
hold_by_row h k n (Some x) (Some y) e =
    let s : hold_row h n x ≡ hold_row k n y = same_Some _ _ e in
    let day : x.0 ≡ y.0 = same_day x.0 y.0 (ap (λ (r : HoldRow). r.placed) s) in
    let target : x.1.target ≡ y.1.target = sym (target_told x.1.target) ∙ ap (λ (r : HoldRow). target_of r.deposit r.collection r.class) s ∙ target_told y.1.target in
    let hold : x.1 ≡ y.1 = λ i. record { target = target i; matter = (s i).matter } in
    λ i. Some (day i, hold i)
hold_by_row h k n _ _ e = absurd cc

released_by_row : (h k : History) → IsLegal h → IsLegal k → (n : ℕ) (x y : Option (Date × Hold)) → hold_numbered h n ≡ x → hold_numbered k n ≡ y
    → option_map (hold_row h n) x ≡ option_map (hold_row k n) y → release_day h n ≡ release_day k n
released_by_row h k legal_h legal_k n None None a b e = none_released h legal_h n a ∙ sym (none_released k legal_k n b)
released_by_row h k legal_h legal_k n (Some x) (Some y) a b e =
    let s : hold_row h n x ≡ hold_row k n y = same_Some _ _ e in
    same_days (release_day h n) (release_day k n) (ap (λ (r : HoldRow). r.released) s)
released_by_row h k legal_h legal_k n _ _ a b e = absurd cc

-- ---- the policy

effect_of : ℤ → Effect
effect_of (pos zero) = Deny
effect_of (pos (suc n)) = Allow
effect_of (negsuc n) = Deny

effect_told : (effect : Effect) → effect_of (effect_number effect) ≡ effect
unfolding effect_of
effect_told Allow = refl
effect_told Deny = refl

abbrev pattern_of : List ℕ → Pattern
pattern_of text = if bytes_eq text (codes "*") then patterns.Any else patterns.Named text

pub not_star : (only : List ℕ) → IsName only → bytes_eq only (codes "*") ≡ false
not_star only named = false_from_ne_true (bytes_eq only (codes "*")) (λ e. let star : is_name (codes "*") ≡ true = subst IsName ((bytes_eq-Decides only (codes "*")).0 e) named in true≢false (sym star))

pattern_told : (pattern : Pattern) → IsNamed pattern → pattern_of (pattern_text pattern) ≡ pattern
pattern_told patterns.Any named = refl
pattern_told (patterns.Named only) named = ap (λ b. if b then patterns.Any else patterns.Named only) (not_star only named)

abbrev action_pattern_of : List ℕ → ActionPattern
action_pattern_of text = if bytes_eq text (codes "*") then action_patterns.Any else action_patterns.Only (unwrap_or (action_of text) acts.Class)

action_told : (action : Action) → action_pattern_of (action_text action) ≡ action_patterns.Only action
action_told acts.Class = refl
action_told _ = refl

action_pattern_told : (pattern : ActionPattern) → action_pattern_of (action_pattern_text pattern) ≡ pattern
action_pattern_told action_patterns.Any = refl
action_pattern_told (action_patterns.Only action) = action_told action

-- a rule, of which the policies ask for names, is read off its row
one_rule : (place : ℕ) (x y : Rule) → HasNames x → HasNames y → rule_row place x ≡ rule_row place y → x ≡ y
one_rule place x y named_x named_y e =
    let effect : x.effect ≡ y.effect = sym (effect_told x.effect) ∙ ap (λ (r : RuleRow). effect_of r.effect) e ∙ effect_told y.effect in
    let role : x.role ≡ y.role = sym (pattern_told x.role named_x.0) ∙ ap (λ (r : RuleRow). pattern_of r.role) e ∙ pattern_told y.role named_y.0 in
    let action : x.action ≡ y.action = sym (action_pattern_told x.action) ∙ ap (λ (r : RuleRow). action_pattern_of r.action) e ∙ action_pattern_told y.action in
    let collection : x.collection ≡ y.collection = sym (pattern_told x.collection named_x.1) ∙ ap (λ (r : RuleRow). pattern_of r.collection) e ∙ pattern_told y.collection named_y.1 in
    let class : x.class ≡ y.class = sym (pattern_told x.class named_x.2) ∙ ap (λ (r : RuleRow). pattern_of r.class) e ∙ pattern_told y.class named_y.2 in
    let first : x.first ≡ y.first = same_day x.first y.first (ap (λ (r : RuleRow). r.first) e) in
    let last : x.last ≡ y.last = same_day x.last y.last (ap (λ (r : RuleRow). r.last) e) in
    λ i. record { effect = effect i; role = role i; action = action i; collection = collection i; class = class i; first = first i; last = last i }

-- and so are the rules
same_rules : (place : ℕ) (xs ys : List Rule) → AllByRecursion HasNames xs → AllByRecursion HasNames ys → rule_rows place xs ≡ rule_rows place ys → xs ≡ ys
same_rules place [] [] named_xs named_ys e = refl
same_rules place (x ∷ xs) (y ∷ ys) named_xs named_ys e =
    let one : rule_row place x ≡ rule_row place y = cc in
    let more : rule_rows (place + 1) xs ≡ rule_rows (place + 1) ys = cc in
    let first : x ≡ y = one_rule place x y named_xs.0 named_ys.0 one in
    let rest : xs ≡ ys = same_rules (place + 1) xs ys named_xs.1 named_ys.1 more in
    λ i. first i ∷ rest i
same_rules place _ _ named_xs named_ys e = absurd cc

abbrev caller_of : CallerRow → Caller
caller_of r = record { name = r.name; role = r.role }

callers_told : (callers : List Caller) → map caller_of (map caller_row callers) ≡ callers
callers_told [] = refl
callers_told (caller ∷ callers) = ap (λ cs. caller ∷ cs) (callers_told callers)

same_policy : (h k : History) (version : ℤ) → IsLegal h → IsLegal k → picture version h ≡ picture version k → policy h ≡ policy k
same_policy h k version legal_h legal_k e =
    let callers : (policy h).callers ≡ (policy k).callers = sym (callers_told (policy h).callers) ∙ ap (λ (t : Tables). map caller_of t.callers) e ∙ callers_told (policy k).callers in
    let rules : (policy h).rules ≡ (policy k).rules = same_rules 1 (policy h).rules (policy k).rules (legal_policy h legal_h).rules_ask_for_names (legal_policy k legal_k).rules_ask_for_names (ap (λ (t : Tables). t.rules) e) in
    λ i. record { callers = callers i; rules = rules i }

-- ---- classes

years_told : (years : Option ℕ) → years_back (years_number years) ≡ years
years_told None = refl
years_told (Some n) = refl

-- the years that a row gives the class of that name
abbrev pub row_years : List ℕ → ClassRow → Option (Option ℕ)
row_years name r = if bytes_eq r.name name then Some (years_back r.years) else None

abbrev pub rows_by : (List ℕ → Option (Option ℕ)) → List (List ℕ) → List ClassRow
rows_by years names = filter_map (λ name. option_map (class_row name) (years name)) names

-- a row of another name says nothing of the class
skip : (years : List ℕ → Option (Option ℕ)) (name other : List ℕ) (rest : List ClassRow) → bytes_eq other name ≡ false → (o : Option (Option ℕ))
    → first_said (row_years name) (cons_option (option_map (class_row other) o) rest) ≡ first_said (row_years name) rest
skip years name other rest e None = refl
skip years name other rest e (Some y) = ap (λ b. option_or (if b then Some (years_back (years_number y)) else None) (first_said (row_years name) rest)) e

none_told : (years : List ℕ → Option (Option ℕ)) (name : List ℕ) (names : List (List ℕ)) → years name ≡ None → first_said (row_years name) (rows_by years names) ≡ None
none_told years name [] none = refl
none_told years name (other ∷ names) none =
    by_Bool (bytes_eq other name)
    (λ e. ap (λ o. first_said (row_years name) (cons_option (option_map (class_row other) o) (rows_by years names))) (ap years ((bytes_eq-Decides other name).0 e) ∙ none) ∙ none_told years name names none)
    (λ e. skip years name other (rows_by years names) e (years other) ∙ none_told years name names none)

some_told : (years : List ℕ → Option (Option ℕ)) (name : List ℕ) (y : Option ℕ) (names : List (List ℕ)) → years name ≡ Some y → list_any (bytes_eq name) names ≡ true
    → first_said (row_years name) (rows_by years names) ≡ Some y
some_told years name y [] is among = absurd (true≢false (sym among))
some_told years name y (other ∷ names) is among =
    by_Bool (bytes_eq other name)
    (λ e. ap (λ o. first_said (row_years name) (cons_option (option_map (class_row other) o) (rows_by years names))) (ap years ((bytes_eq-Decides other name).0 e) ∙ is)
    ∙ (λ i. option_or (if e i then Some (years_told y i) else None) (first_said (row_years name) (rows_by years names))))
    (λ e. skip years name other (rows_by years names) e (years other)
    ∙ some_told years name y names is (sym (ap (λ b. b || list_any (bytes_eq name) names) (other_way name other e)) ∙ among))

-- a class that has years is among those that were defined
class_at : (name other : List ℕ) (years y : Option ℕ) (o : Option (Option ℕ)) (among : Bool) (b : Bool) → bytes_eq other name ≡ b → (o ≡ Some y → among ≡ true)
    → option_or o (if b then Some years else None) ≡ Some y → (bytes_eq name other || among) ≡ true
class_at name other years y o among true f rest e = ap (λ b. b || among) ((bytes_eq-Decides name other).1 (sym ((bytes_eq-Decides other name).0 f)))
class_at name other years y o among false f rest e = ap (λ b. bytes_eq name other || b) (rest (sym (or_none o) ∙ e)) ∙ or-true (bytes_eq name other)

pub was_defined : (name : List ℕ) (y : Option ℕ) (changes : List Change) → last_said (years_in name) changes ≡ Some y → list_any (bytes_eq name) (filter_map class_in changes) ≡ true
was_defined name y [] e = absurd cc
was_defined name y (DefinedClass day other years ∷ changes) e =
    class_at name other years y (last_said (years_in name) changes) (list_any (bytes_eq name) (filter_map class_in changes)) (bytes_eq other name) refl (was_defined name y changes) e
was_defined name y (_ ∷ changes) e = was_defined name y changes (sym (or_none _) ∙ e)

pub years_read : (h : History) (name : List ℕ) → first_said (row_years name) (class_rows h) ≡ years_of h name
years_read h name =
    let texts = filter_map class_in h.changes in
    by_Option (years_of h name) (λ none. none_told (years_of h) name (in_first_places texts) none ∙ sym none)
    (λ y is. some_told (years_of h) name y (in_first_places texts) is (among_first_places name texts ∙ was_defined name y h.changes is) ∙ sym is)

-- ---- the names of the classes

pub all_distinct : (P : List ℕ → Type 0) (seen xs : List (List ℕ)) → AllByRecursion P xs → AllByRecursion P (distinct_after seen xs)
all_distinct P seen [] a = tt
all_distinct P seen (x ∷ xs) a =
    by_Bool (list_any (bytes_eq x) seen) (λ before. rw before (all_distinct P seen xs a.1)) (λ new. rw new (a.0, all_distinct P (x ∷ seen) xs a.1))

abbrev pub HasYears : List Change → List ℕ → Type 0
HasYears changes name = is_some (last_said (years_in name) changes) ≡ true

still_some : {A : Type 0} (a b : Option A) → is_some a ≡ true → is_some (option_or a b) ≡ true
still_some None b e = absurd (true≢false (sym e))
still_some (Some x) b e = refl

-- each class that was defined has years
pub all_have_years : (changes : List Change) → AllByRecursion (HasYears changes) (filter_map class_in changes)
all_have_years [] = tt
all_have_years (c ∷ changes) = by c (all_weaker (HasYears changes) (HasYears (c ∷ changes)) (λ name. still_some (last_said (years_in name) changes) (years_in name c)) (filter_map class_in changes) (all_have_years changes))
  where
    by : (c : Change) → AllByRecursion (HasYears (c ∷ changes)) (filter_map class_in changes) → AllByRecursion (HasYears (c ∷ changes)) (filter_map class_in (c ∷ changes))
    by (DefinedClass day name years) rest = (
      some_behind (last_said (years_in name) changes) (years_in name (DefinedClass day name years)) (ap (λ b. is_some (if b then Some years else None)) ((bytes_eq-Decides name name).1 refl)),
      rest,
    )
    by _ rest = rest

names_told : (years : List ℕ → Option (Option ℕ)) (names : List (List ℕ)) → AllByRecursion (λ name. is_some (years name) ≡ true) names → map (λ (r : ClassRow). r.name) (rows_by years names) ≡ names
names_told years [] a = refl
names_told years (name ∷ names) a =
    by_Option (years name) (λ none. absurd (let some = rw none at a.0 in cc)) (λ y is. rw is (ap (λ ns. name ∷ ns) (names_told years names a.1)))

pub names_read : (h : History) → map (λ (r : ClassRow). r.name) (class_rows h) ≡ in_first_places (filter_map class_in h.changes)
names_read h = names_told (years_of h) (in_first_places (filter_map class_in h.changes)) (all_distinct (HasYears h.changes) [] (filter_map class_in h.changes) (all_have_years h.changes))

-- ---- all of it

abbrev most : (OfficeRow → ℤ) → List OfficeRow → ℕ
most limit [] = 0
most limit (r ∷ rs) = unsigned_abs (limit r)

-- legal histories with one picture agree in all that the office decides by
pub alike : (h k : History) (version : ℤ) → IsLegal h → IsLegal k → picture version h ≡ picture version k → Alike h k
alike h k version legal_h legal_k e = record {
  same_max_deposits = ap (λ (t : Tables). most (λ r. r.max_deposits) t.office) e;
  same_max_holds = ap (λ (t : Tables). most (λ r. r.max_holds) t.office) e;
  same_policy = same_policy h k version legal_h legal_k e;
  same_years = λ name. sym (years_read h name) ∙ ap (λ (t : Tables). first_said (row_years name) t.classes) e ∙ years_read k name;
  same_classes = sym (names_read h) ∙ ap (λ (t : Tables). map (λ (r : ClassRow). r.name) t.classes) e ∙ names_read k;
  same_collections = ap (λ (t : Tables). t.collections) e;
  same_deposits = same_list (map outline (deposits h)) (map outline (deposits k)) (λ i.
      slice_get-map outline (deposits h) i
      ∙ outline_by_row h k (suc i) (deposit_numbered h (suc i)) (deposit_numbered k (suc i)) (same_row h k version e (suc i))
      ∙ sym (slice_get-map outline (deposits k) i));
  same_gone = lost;
  same_bags = λ n kept_numbers. same_files h k version e n (deposit_numbered h n) (deposit_numbered k n) refl refl (same_row h k version e n) kept_numbers (sym (lost n) ∙ kept_numbers);
  same_holds = same_list (holds h) (holds k) (λ i. hold_by_row h k (suc i) (hold_numbered h (suc i)) (hold_numbered k (suc i)) (same_hold_row h k version e (suc i)));
  same_released = λ j. released_by_row h k legal_h legal_k j (hold_numbered h j) (hold_numbered k j) refl refl (same_hold_row h k version e j);
}
  where
    lost : (n : ℕ) → destruction_day h n ≡ destruction_day k n
    lost n = gone_by_row h k legal_h legal_k n (deposit_numbered h n) (deposit_numbered k n) refl refl (same_row h k version e n)
