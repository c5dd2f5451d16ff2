-- What is kept of deposits, after a longer history: due days and counts of holds.
use Rattle.office_refines.proofs.FirstLemmas.{◌≡◌, ℕ, zero, suc, ◌+◌, ◌≤◌, ◌<◌, ◌&&◌, ℤ, pos, negsuc, ◌+ℤ◌, Bool, true, false, List, [], ◌∷◌, map, filter, length, Some, None, is_none, refl, sym, ap, ap₂, subst, ◌∙◌, arith, cond, if◌then◌else◌, range_with_len, option_map_or, int_eq, Decides-int_eq, ints, same_Some, slice_get_within, Date, DepositRow, DueRow, more_holds, is_due_of, item_numbered, last_said, numbers, History, Change, Deposit, Hold, Target, ReleasedHold, with_changes, deposits, holds, hold_numbered, release_day, is_live, reaches, covers, live_holds, years_in, deposit_row, deposit_rows, due_row, due_rows, different, deposit_numbered, due_number, alike, another, itself, rows_changed, rows_from, same_count, deposit_rows_are, due_rows_are, released_then, same_deposits, same_due, same_holds, LeavesDeposits}

-- ---- changes that take no deposit and define no class

-- as many more over those that pass make the rows of what is said after
more_from : {A : Type 0} (those : DepositRow → Bool) (by : ℤ) (tell : ℕ → A → DepositRow) (before after : ℕ → A → DueRow)
    → ((m : ℕ) (x : A) → (if those (tell m x) then record (before m x) { holds = (before m x).holds +ℤ by } else before m x) ≡ after m x)
    → (xs : List A) (start : ℕ) → more_holds those by (rows_from tell start xs) (rows_from before start xs) ≡ rows_from after start xs
more_from those by tell before after same [] start = refl
more_from those by tell before after same (x ∷ xs) start = ap₂ (λ r rs. r ∷ rs) (same start x) (more_from those by tell before after same xs (start + 1))

-- a count, and as many more where it grows
abbrev pub counted_if : Bool → ℤ → ℕ → ℤ
counted_if grows by count = if grows then pos count +ℤ by else pos count

-- as many more live holds cover each deposit that a hold on this reaches
abbrev pub IsCounted : History → List Change → ℤ → Target → Type 0
IsCounted h more by target = (n : ℕ) (d : Deposit) → counted_if (reaches target n d) by (length (live_holds h n d)) ≡ pos (length (live_holds (with_changes h more) n d))

module _ (h : History) (more : List Change) (none : LeavesDeposits more) (silent : (name : List ℕ) → last_said (years_in name) more ≡ None) (by : ℤ) (target : Target) (counted : IsCounted h more by target) where
  abbrev grown : History
  grown = with_changes h more

  grown_row : (m : ℕ) (x : Date × Deposit) (b : Bool) → reaches target m x.1 ≡ b → (if b then record (due_row h m x) { holds = (due_row h m x).holds +ℤ by } else due_row h m x) ≡ due_row grown m x
  grown_row m x true e = λ i. record { number = pos m; due = due_number (same_due h more silent x.1 i); holds = (ap (λ b. counted_if b by (length (live_holds h m x.1))) (sym e) ∙ counted m x.1) i }
  grown_row m x false e = λ i. record { number = pos m; due = due_number (same_due h more silent x.1 i); holds = (ap (λ b. counted_if b by (length (live_holds h m x.1))) (sym e) ∙ counted m x.1) i }

  no_more : rows_from (due_row grown) 1 (deposits h) ≡ due_rows grown
  no_more = ap (rows_from (due_row grown) 1) (sym (same_deposits h more none)) ∙ sym (due_rows_are grown)

  -- over those deposits that pass
  pub dues_of_those : (those : DepositRow → Bool) → ((m : ℕ) (x : Date × Deposit) → reaches target m x.1 ≡ those (deposit_row h m x)) → more_holds those by (deposit_rows h) (due_rows h) ≡ due_rows grown
  dues_of_those those reached =
      ap₂ (more_holds those by) (deposit_rows_are h) (due_rows_are h)
      ∙ more_from those by (deposit_row h) (due_row h) (due_row grown) (λ m x. grown_row m x (those (deposit_row h m x)) (reached m x)) (deposits h) 1 ∙ no_more

  -- over the deposit of one number
  module _ (n : ℕ) (deposit : Date × Deposit) (at : deposit_numbered h n ≡ Some deposit) (reached : (m : ℕ) (d : Deposit) → reaches target m d ≡ int_eq (pos m) (pos n)) where
    abbrev counted_there : DueRow → DueRow
    counted_there d = if is_due_of (pos n) d then record d { holds = pos (length (live_holds h n deposit.1)) +ℤ by } else d

    one_row : (m : ℕ) (x : Date × Deposit) → deposit_numbered h m ≡ Some x → (b : Bool) → int_eq (pos m) (pos n) ≡ b
        → (if b then record (due_row h m x) { holds = pos (length (live_holds h n deposit.1)) +ℤ by } else due_row h m x) ≡ due_row grown m x
    one_row m x there true e =
        let same : n ≡ m = sym (same_count m n ((Decides-int_eq (pos m) (pos n)).0 e)) in
        let it : deposit ≡ x = same_Some deposit x (sym at ∙ ap (deposit_numbered h) same ∙ there) in
        (λ i. record (due_row h m x) { holds = pos (length (live_holds h (same i) (it i).1)) +ℤ by }) ∙ grown_row m x true (reached m x.1 ∙ e)
    one_row m x there false e = grown_row m x false (reached m x.1 ∙ e)

    pub dues_on : map counted_there (due_rows h) ≡ due_rows grown
    dues_on =
        ap (map counted_there) (due_rows_are h)
        ∙ rows_changed counted_there (due_row h) (due_row grown) (deposits h) 1
        (λ i x there. let one : suc i ≡ 1 + i = omega arith in one_row (1 + i) x (subst (λ k. deposit_numbered h k ≡ Some x) one there) (int_eq (pos (1 + i)) (pos n)) refl)
        ∙ no_more

-- ---- one number less passes

pub same_passing : (p q : ℕ → Bool) (start len : ℕ) → ((m : ℕ) → start ≤ m → m < start + len → p m ≡ q m) → filter p (range_with_len start len) ≡ filter q (range_with_len start len)
same_passing p q start zero same = refl
same_passing p q start (suc len) same =
    ap₂ (λ b rest. cond b (start ∷ rest) rest) (same start (omega arith) (omega arith)) (same_passing p q (start + 1) len (λ m low high. same m (omega (arith, low)) (omega (arith, high))))

one_less : (p q : ℕ → Bool) (k : ℕ) → q k ≡ false → ((m : ℕ) → ¬ (m ≡ k) → p m ≡ q m) → (start len i : ℕ) → start + i ≡ k → i < len
    → length (filter p (range_with_len start len)) ≡ length (filter q (range_with_len start len)) + (if p k then 1 else 0)
one_less p q k without others start zero i at low = absurd (omega (arith, low))
one_less p q k without others start (suc len) zero at low =
    let same : start ≡ k = omega (arith, at) in
    let rest = same_passing p q (start + 1) len (λ m past high. others m (λ e. omega (arith, e, at, past))) in
    (λ j. length (cond (p (same j)) (start ∷ rest j) (rest j))) ∙ here (p k) (filter q (range_with_len (start + 1) len))
    ∙ (λ j. length (cond (sym (ap q same ∙ without) j) (start ∷ filter q (range_with_len (start + 1) len)) (filter q (range_with_len (start + 1) len))) + (if p k then 1 else 0))
  where
    here : (b : Bool) (xs : List ℕ) → length (cond b (start ∷ xs) xs) ≡ length xs + (if b then 1 else 0)
    here true xs = omega arith
    here false xs = omega arith
one_less p q k without others start (suc len) (suc i) at low =
    (λ j. length (cond (others start (λ e. omega (arith, e, at)) j) (start ∷ filter p (range_with_len (start + 1) len)) (filter p (range_with_len (start + 1) len))))
    ∙ there (q start) (filter p (range_with_len (start + 1) len)) (filter q (range_with_len (start + 1) len)) (if p k then 1 else 0) (one_less p q k without others (start + 1) len i (omega (arith, at)) (omega (arith, low)))
  where
    there : (b : Bool) (xs ys : List ℕ) (more : ℕ) → length xs ≡ length ys + more → length (cond b (start ∷ xs) xs) ≡ length (cond b (start ∷ ys) ys) + more
    there true xs ys more next = omega (arith, next)
    there false xs ys more next = next

numbered_at : {A : Type 0} (xs : List A) (k : ℕ) (x : A) → item_numbered xs k ≡ Some x → (i : ℕ) × (1 + i ≡ k) × (i < length xs)
numbered_at xs zero x e = absurd cc
numbered_at xs (suc i) x e = (i, omega arith, slice_get_within xs i x e)

-- ---- a hold is released

module _ (h : History) (day : Date) (k : ℕ) (found : Date × Hold) (there : hold_numbered h k ≡ Some found) (live : release_day h k ≡ None) where
  abbrev more : List Change
  more = ReleasedHold day k ∷ []

  abbrev longer : History
  longer = with_changes h more

  abbrev live_then : ℕ → Deposit → ℕ → Bool
  live_then n d m = is_none (release_day longer m) && covers h m n d

  -- one hold less covers a deposit that it reached
  count_less : (n : ℕ) (d : Deposit) → length (live_holds h n d) ≡ length (live_holds longer n d) + (if reaches found.1.target n d then 1 else 0)
  count_less n d =
      let place = numbered_at (holds h) k found there in
      let now = itself (release_day h) (release_day longer) k day live (released_then h day k live) k (alike k k refl) in
      one_less (λ m. is_live h m && covers h m n d) (live_then n d) k (λ i. is_none (now.1 i) && covers h k n d)
      (λ m other. λ i. is_none (sym (another (release_day h) (release_day longer) k day live (released_then h day k live) m (different m k other)) i) && covers h m n d) 1 (length (holds h)) place.0 place.1 place.2
      ∙ (λ i. length (filter (λ m. is_none (release_day longer m) && option_map_or (λ hold. reaches hold.1.target n d) (item_numbered (sym (same_holds h more refl) i) m) false) (numbers (length (sym (same_holds h more refl) i))))
      + (if is_none (live i) && option_map_or (λ hold. reaches hold.1.target n d) (there i) false then 1 else 0))

  pub counted_released : IsCounted h more (negsuc 0) found.1.target
  counted_released n d = down (length (live_holds h n d)) (length (live_holds longer n d)) (reaches found.1.target n d) (count_less n d)
    where
      down : (a b : ℕ) (c : Bool) → a ≡ b + (if c then 1 else 0) → counted_if c (negsuc 0) a ≡ pos b
      down a b true e = omega (arith, ints, e)
      down a b false e = let same : a ≡ b = omega (arith, e) in ap pos same
