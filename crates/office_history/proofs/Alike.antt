-- Two histories that agree in all that the office decides by: they grow alike, and have one picture.
use Rattle.office_history.proofs.Common.{◌≡◌, ℕ, zero, suc, ℤ, Bool, true, false, List, [], ◌∷◌, ◌++◌, length, map, filter, Option, Some, None, option_map, unwrap_or, slice_get, is_none, is_some, refl, sym, ap, ◌∙◌, pos, arith, ◌&&◌, bytes_eq, sum, filter_map, flat_map, list_any, cons_option, option_or, option_map_or, map-append, length-map, filter_map-append, same_Some, slice_get-map, Date, File, payload_files, payload_bytes, Description, due_of, Never, DepositRow, first_said, last_said, item_numbered, numbers, distinct_after, in_first_places, History, Change, Deposit, with_changes, installed_in, no_policy, policy, years_in, years_of, collection_in, collections, deposit_in, deposits, deposit_numbered, destroyed_in, destruction_day, kept_numbers, due, Hold, Target, OnDeposit, reaches, is_live, hold_in, holds, hold_numbered, released_in, release_day, files_of, Stock, stock, class_in, class_row, caller_row, rule_rows, file_row, file_rows, row_by_release, row_by_gone, deposit_row, row_of_deposit, due_number, due_row, row_of_due, picture, is_nothing, by_Bool}
use Rattle.office_history.proofs.HistoryLemmas.{deposits_grown, holds_grown}

-- what is known of a deposit whose bag may be gone
pub record Outline : Type 0 where
  pub day : Date
  pub description : Description
  pub files : ℕ
  pub bytes : ℕ

abbrev pub outline : Date × Deposit → Outline
outline found = record {
  day = found.0;
  description = found.1.description;
  files = payload_files found.1.bag;
  bytes = payload_bytes found.1.bag;
}

abbrev pub bag_in : Option (Date × Deposit) → List File
bag_in found = option_map_or (λ f. f.1.bag) found []

-- all that answers depend on is the same: bags as long as they are kept
pub record Alike (h k : History) : Type 0 where
  pub same_max_deposits : h.max_deposits ≡ k.max_deposits
  pub same_max_holds : h.max_holds ≡ k.max_holds
  pub same_policy : policy h ≡ policy k
  pub same_years : (name : List ℕ) → years_of h name ≡ years_of k name
  pub same_classes : in_first_places (filter_map class_in h.changes) ≡ in_first_places (filter_map class_in k.changes)
  pub same_collections : in_first_places (collections h) ≡ in_first_places (collections k)
  pub same_deposits : map outline (deposits h) ≡ map outline (deposits k)
  pub same_gone : (n : ℕ) → destruction_day h n ≡ destruction_day k n
  pub same_bags : (n : ℕ) → destruction_day h n ≡ None → files_of h n ≡ files_of k n
  pub same_holds : holds h ≡ holds k
  pub same_released : (n : ℕ) → release_day h n ≡ release_day k n

-- ---- what is said in longer lists

pub or_none : {A : Type 0} (o : Option A) → option_or o None ≡ o
or_none None = refl
or_none (Some x) = refl

pub some_behind : {A : Type 0} (a b : Option A) → is_some b ≡ true → is_some (option_or a b) ≡ true
some_behind None b e = e
some_behind (Some x) b e = refl

or_assoc : {A : Type 0} (a b c : Option A) → option_or (option_or a b) c ≡ option_or a (option_or b c)
or_assoc None b c = refl
or_assoc (Some x) b c = refl

unwrap_or_or : {A : Type 0} (a b : Option A) (d : A) → unwrap_or (option_or a b) d ≡ unwrap_or a (unwrap_or b d)
unwrap_or_or None b d = refl
unwrap_or_or (Some x) b d = refl

pub last_said-append : {A B : Type 0} (says : A → Option B) (xs ys : List A) → last_said says (xs ++ ys) ≡ option_or (last_said says ys) (last_said says xs)
last_said-append says [] ys = sym (or_none (last_said says ys))
last_said-append says (x ∷ xs) ys = ap (λ o. option_or o (says x)) (last_said-append says xs ys) ∙ or_assoc (last_said says ys) (last_said says xs) (says x)

pub first_said-append : {A B : Type 0} (says : A → Option B) (xs ys : List A) → first_said says (xs ++ ys) ≡ option_or (first_said says xs) (first_said says ys)
first_said-append says [] ys = refl
first_said-append says (x ∷ xs) ys = ap (option_or (says x)) (first_said-append says xs ys) ∙ sym (or_assoc (says x) (first_said says xs) (first_said says ys))

-- what is kept of each text once depends, with more texts, on what was kept alone
pub distinct_after-append : (seen xs ys : List (List ℕ)) → distinct_after seen (xs ++ ys) ≡ distinct_after seen (distinct_after seen xs ++ ys)
distinct_after-append seen [] ys = refl
distinct_after-append seen (x ∷ xs) ys =
    by_Bool (list_any (bytes_eq x) seen) (λ before. rw before (distinct_after-append seen xs ys)) (λ new. rw (new, new) (ap (λ zs. x ∷ zs) (distinct_after-append (x ∷ seen) xs ys)))

-- ---- longer histories

pub gone_grown : (h : History) (more : List Change) (n : ℕ) → destruction_day (with_changes h more) n ≡ option_or (destruction_day h n) (first_said (destroyed_in n) more)
gone_grown h more n = first_said-append (destroyed_in n) h.changes more

pub released_grown : (h : History) (more : List Change) (n : ℕ) → release_day (with_changes h more) n ≡ option_or (release_day h n) (first_said (released_in n) more)
released_grown h more n = first_said-append (released_in n) h.changes more

pub policy_grown : (h : History) (more : List Change) → policy (with_changes h more) ≡ unwrap_or (last_said installed_in more) (policy h)
policy_grown h more =
    ap (λ o. unwrap_or o no_policy) (last_said-append installed_in h.changes more)
    ∙ unwrap_or_or (last_said installed_in more) (last_said installed_in h.changes) no_policy

pub texts_grown : (says : Change → Option (List ℕ)) (h : History) (more : List Change)
    → in_first_places (filter_map says (with_changes h more).changes) ≡ in_first_places (in_first_places (filter_map says h.changes) ++ filter_map says more)
texts_grown says h more =
    ap in_first_places (filter_map-append says h.changes more) ∙ distinct_after-append [] (filter_map says h.changes) (filter_map says more)

-- a deposit that is not gone in the longer history was not gone before
pub not_gone_before : (a b : Option Date) → option_or a b ≡ None → a ≡ None
not_gone_before None b e = refl
not_gone_before (Some day) b e = absurd cc

same_bag_at : (xs ys more : List (Date × Deposit)) (i : ℕ) → length xs ≡ length ys → bag_in (slice_get xs i) ≡ bag_in (slice_get ys i)
    → bag_in (slice_get (xs ++ more) i) ≡ bag_in (slice_get (ys ++ more) i)
same_bag_at [] [] more i len e = refl
same_bag_at (x ∷ xs) (y ∷ ys) more zero len e = e
same_bag_at (x ∷ xs) (y ∷ ys) more (suc i) len e = same_bag_at xs ys more i (omega (arith, len)) e
same_bag_at _ _ more i len e = absurd (omega (arith, len))

same_bag_numbered : (xs ys more : List (Date × Deposit)) (n : ℕ) → length xs ≡ length ys → bag_in (item_numbered xs n) ≡ bag_in (item_numbered ys n)
    → bag_in (item_numbered (xs ++ more) n) ≡ bag_in (item_numbered (ys ++ more) n)
same_bag_numbered xs ys more zero len e = refl
same_bag_numbered xs ys more (suc place) len e = same_bag_at xs ys more place len e

pub same_count : (h k : History) → Alike h k → length (deposits h) ≡ length (deposits k)
same_count h k a = sym (length-map (deposits h) outline) ∙ ap length a.same_deposits ∙ length-map (deposits k) outline

-- histories that agree still do after the same changes
pub alike_grown : (h k : History) → Alike h k → (more : List Change) → Alike (with_changes h more) (with_changes k more)
alike_grown h k a more = record {
  same_max_deposits = a.same_max_deposits;
  same_max_holds = a.same_max_holds;
  same_policy = policy_grown h more ∙ ap (unwrap_or (last_said installed_in more)) a.same_policy ∙ sym (policy_grown k more);
  same_years = λ name.
      last_said-append (years_in name) h.changes more ∙ ap (option_or (last_said (years_in name) more)) (a.same_years name)
      ∙ sym (last_said-append (years_in name) k.changes more);
  same_classes = texts_grown class_in h more ∙ ap (λ texts. in_first_places (texts ++ filter_map class_in more)) a.same_classes ∙ sym (texts_grown class_in k more);
  same_collections = texts_grown collection_in h more ∙ ap (λ texts. in_first_places (texts ++ filter_map collection_in more)) a.same_collections ∙ sym (texts_grown collection_in k more);
  same_deposits =
      outlines h ∙ ap (λ os. os ++ map outline (filter_map deposit_in more)) a.same_deposits ∙ sym (outlines k);
  same_gone = λ n. gone_grown h more n ∙ ap (λ o. option_or o (first_said (destroyed_in n) more)) (a.same_gone n) ∙ sym (gone_grown k more n);
  same_bags = λ n e.
      ap (λ ds. bag_in (item_numbered ds n)) (deposits_grown h more)
      ∙ same_bag_numbered (deposits h) (deposits k) (filter_map deposit_in more) n (same_count h k a)
      (a.same_bags n (not_gone_before (destruction_day h n) (first_said (destroyed_in n) more) (sym (gone_grown h more n) ∙ e)))
      ∙ sym (ap (λ ds. bag_in (item_numbered ds n)) (deposits_grown k more));
  same_holds = holds_grown h more ∙ ap (λ hs. hs ++ filter_map hold_in more) a.same_holds ∙ sym (holds_grown k more);
  same_released = λ n. released_grown h more n ∙ ap (λ o. option_or o (first_said (released_in n) more)) (a.same_released n) ∙ sym (released_grown k more n);
}
  where
    outlines : (x : History) → map outline (deposits (with_changes x more)) ≡ map outline (deposits x) ++ map outline (filter_map deposit_in more)
    outlines x = ap (map outline) (deposits_grown x more) ∙ map-append outline (deposits x) (filter_map deposit_in more)

-- ---- what is read alike

pub numbered-map : {A B : Type 0} (f : A → B) (xs : List A) (n : ℕ) → item_numbered (map f xs) n ≡ option_map f (item_numbered xs n)
numbered-map f xs zero = refl
numbered-map f xs (suc place) = slice_get-map f xs place

pub same_outline : (h k : History) → Alike h k → (n : ℕ) → option_map outline (deposit_numbered h n) ≡ option_map outline (deposit_numbered k n)
same_outline h k a n = sym (numbered-map outline (deposits h) n) ∙ ap (λ os. item_numbered os n) a.same_deposits ∙ numbered-map outline (deposits k) n

-- a deposit is its outline and its bag
whole : (x y : Option (Date × Deposit)) → option_map outline x ≡ option_map outline y → bag_in x ≡ bag_in y → x ≡ y
whole None None e bags = refl
whole (Some x) (Some y) e bags =
    let s : outline x ≡ outline y = same_Some _ _ e in
    let d : x.1 ≡ y.1 = λ i. record { description = (s i).description; bag = bags i } in
    λ i. Some ((s i).day, d i)
whole _ _ e bags = absurd cc

pub same_found : (h k : History) → Alike h k → (n : ℕ) → destruction_day h n ≡ None → deposit_numbered h n ≡ deposit_numbered k n
same_found h k a n e = whole (deposit_numbered h n) (deposit_numbered k n) (same_outline h k a n) (a.same_bags n e)

pub same_kept : (h k : History) → Alike h k → kept_numbers h ≡ kept_numbers k
same_kept h k a = λ i. filter (λ n. is_none (a.same_gone n i)) (numbers (same_count h k a i))

-- ---- and so all rows

-- what is gathered of what a filter keeps is asked of that alone
pub gathered_of_kept : {A B : Type 0} (p : A → Bool) (f g : A → List B) (xs : List A) → ((x : A) → p x ≡ true → f x ≡ g x) → flat_map f (filter p xs) ≡ flat_map g (filter p xs)
gathered_of_kept p f g [] same = refl
gathered_of_kept p f g (x ∷ xs) same =
    let rest = gathered_of_kept p f g xs same in by_Bool (p x) (λ passes. rw passes (λ i. same x passes i ++ rest i)) (λ fails. rw fails rest)

pub mapped_of_kept : {A B : Type 0} (p : A → Bool) (f g : A → Option B) (xs : List A) → ((x : A) → p x ≡ true → f x ≡ g x) → filter_map f (filter p xs) ≡ filter_map g (filter p xs)
mapped_of_kept p f g [] same = refl
mapped_of_kept p f g (x ∷ xs) same =
    let rest = mapped_of_kept p f g xs same in by_Bool (p x) (λ passes. rw passes (λ i. cons_option (same x passes i) (rest i))) (λ fails. rw fails rest)

-- the deposit of an outline, without its bag
abbrev bare : Outline → Deposit
bare o = record { description = o.description; bag = [] }

abbrev row_from : ℕ → Option Date → Outline → DepositRow
row_from n day o = record (row_by_gone n day (o.day, bare o)) { files = pos o.files; bytes = pos o.bytes }

-- a row is made of the outline
pub row_of_outline : (h : History) (n : ℕ) (found : Option (Date × Deposit)) → option_map (deposit_row h n) found ≡ option_map (row_from n (destruction_day h n)) (option_map outline found)
row_of_outline h n None = refl
row_of_outline h n (Some found) = refl

same_row : (h k : History) → Alike h k → (n : ℕ) → row_of_deposit h n ≡ row_of_deposit k n
same_row h k a n =
    row_of_outline h n (deposit_numbered h n)
    ∙ (λ i. option_map (row_from n (a.same_gone n i)) (same_outline h k a n i))
    ∙ sym (row_of_outline k n (deposit_numbered k n))

pub same_file_rows : (h k : History) → Alike h k → file_rows h ≡ file_rows k
same_file_rows h k a =
    gathered_of_kept (λ n. is_none (destruction_day h n)) (λ n. map (file_row n) (files_of h n)) (λ n. map (file_row n) (files_of k n)) (numbers (length (deposits h)))
    (λ n e. ap (map (file_row n)) (a.same_bags n (is_nothing (destruction_day h n) e)))
    ∙ ap (flat_map (λ n. map (file_row n) (files_of k n))) (same_kept h k a)

-- ---- what is kept of deposits says nothing of their bags

reaches_bare : (target : Target) (n : ℕ) (found : Date × Deposit) → reaches target n found.1 ≡ reaches target n (bare (outline found))
reaches_bare (OnDeposit m) n found = refl
reaches_bare _ n found = refl

covers_bare : (o : Option (Date × Hold)) (n : ℕ) (found : Date × Deposit)
    → option_map_or (λ hold. reaches hold.1.target n found.1) o false ≡ option_map_or (λ hold. reaches hold.1.target n (bare (outline found))) o false
covers_bare None n found = refl
covers_bare (Some hold) n found = reaches_bare hold.1.target n found

due_row_bare : (h : History) (n : ℕ) (found : Date × Deposit) → due_row h n found ≡ due_row h n (found.0, bare (outline found))
due_row_bare h n found = λ i. record {
  number = pos n;
  due = due_number (due h found.1);
  holds = pos (length (filter (λ k. is_live h k && covers_bare (hold_numbered h k) n found i) (numbers (length (holds h)))));
}

due_of_outline : (h : History) (n : ℕ) (found : Option (Date × Deposit)) → option_map (due_row h n) found ≡ option_map (λ (o : Outline). due_row h n (o.day, bare o)) (option_map outline found)
due_of_outline h n None = refl
due_of_outline h n (Some found) = ap Some (due_row_bare h n found)

same_due : (h k : History) → Alike h k → (n : ℕ) (o : Outline) → due_row h n (o.day, bare o) ≡ due_row k n (o.day, bare o)
same_due h k a n o = λ i. record {
  number = pos n;
  due = due_number (option_map_or (due_of o.description.closed) (a.same_years o.description.class i) Never);
  holds = pos (length (filter (λ m. is_none (a.same_released m i) && option_map_or (λ hold. reaches hold.1.target n (bare o)) (item_numbered (a.same_holds i) m) false) (numbers (length (a.same_holds i)))));
}

same_due_row : (h k : History) → Alike h k → (n : ℕ) → row_of_due h n ≡ row_of_due k n
same_due_row h k a n =
    due_of_outline h n (deposit_numbered h n)
    ∙ (λ i. option_map (λ o. same_due h k a n o i) (same_outline h k a n i))
    ∙ sym (due_of_outline k n (deposit_numbered k n))

-- histories that agree have one picture
pub same_picture : (h k : History) → Alike h k → (version : ℤ) → picture version h ≡ picture version k
same_picture h k a version = λ i. record {
  office = record { id = pos 1; version = version; max_deposits = pos (a.same_max_deposits i); max_holds = pos (a.same_max_holds i) } ∷ [];
  callers = map caller_row (a.same_policy i).callers;
  rules = rule_rows 1 (a.same_policy i).rules;
  classes = filter_map (λ name. option_map (class_row name) (a.same_years name i)) (a.same_classes i);
  collections = a.same_collections i;
  deposits = filter_map (λ n. same_row h k a n i) (numbers (same_count h k a i));
  dues = filter_map (λ n. same_due_row h k a n i) (numbers (same_count h k a i));
  files = same_file_rows h k a i;
  holds = filter_map (λ n. option_map (λ found. row_by_release n (a.same_released n i) found) (item_numbered (a.same_holds i) n)) (numbers (length (a.same_holds i)));
}

-- ---- and the stock

kept_files : (h k : History) → Alike h k → flat_map (files_of h) (kept_numbers h) ≡ flat_map (files_of k) (kept_numbers k)
kept_files h k a =
    gathered_of_kept (λ n. is_none (destruction_day h n)) (files_of h) (files_of k) (numbers (length (deposits h)))
    (λ n e. a.same_bags n (is_nothing (destruction_day h n) e))
    ∙ ap (flat_map (files_of k)) (same_kept h k a)

-- the stock of these files
abbrev stock_of : List File → Stock
stock_of files = record {
  contents = length (in_first_places (map (λ file. file.content) files));
  bytes = sum (map length (in_first_places (map (λ file. file.content) files)));
}

pub same_stock : (h k : History) → Alike h k → stock h ≡ stock k
same_stock h k a = ap stock_of (kept_files h k a)
