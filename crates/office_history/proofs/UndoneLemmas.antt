-- What is undone leaves what is kept of deposits: a hold that is released, and years of a class that are given back.
use Rattle.office_history.proofs.FirstLemmas.{◌≡◌, ℕ, zero, suc, ◌+◌, ◌<◌, ◌==◌, ◌&&◌, pos, Bool, true, false, List, [], ◌∷◌, ◌++◌, filter, length, Option, Some, None, option_map, is_none, bytes_eq, refl, sym, ap, subst, ◌∙◌, length-append, arith, cond, if◌then◌else◌, filter_map, range_with_len, option_or, option_map_or, nat_tests, bytes_eq-Decides, Date, due_of, Never, item_numbered, numbers, History, Change, DefinedClass, PlacedHold, ReleasedHold, Deposit, Hold, with_changes, years_in, years_of, deposits, due, holds, release_day, reaches, live_holds, due_number, due_rows, numbered_front, or_none, last_said-append, released_grown, by_Bool, one_hold, same_deposits, same_holds}
use Rattle.office_history.proofs.Pictured.{there_is}

-- deposits with the same due days and the same live holds have the same rows
rows_stay : (h next : History) → deposits next ≡ deposits h → ((deposit : Deposit) → due next deposit ≡ due h deposit) → ((n : ℕ) (deposit : Deposit) → live_holds next n deposit ≡ live_holds h n deposit) → due_rows next ≡ due_rows h
rows_stay h next same days live = λ i. filter_map (λ n. option_map (λ found. record {
  number = pos n;
  due = due_number (days found.1 i);
  holds = pos (length (live n found.1 i));
}) (item_numbered (same i) n)) (numbers (length (same i)))

-- ---- a hold is placed and released

-- a last number that doesn't pass, after those that pass as before
none_more : (p q : ℕ → Bool) (start len : ℕ) → ((i : ℕ) → i < len → q (start + i) ≡ p (start + i)) → q (start + len) ≡ false → filter q (range_with_len start (suc len)) ≡ filter p (range_with_len start len)
none_more p q start zero same out = let none : start + 0 ≡ start = omega arith in ap (λ b. cond b (start ∷ []) []) (ap q (sym none) ∙ out)
none_more p q start (suc len) same out =
    let none : start + 0 ≡ start = omega arith in
    let one : start + suc len ≡ start + 1 + len = omega arith in
    let first : q start ≡ p start = subst (λ k. q k ≡ p k) none (same 0 (omega arith)) in
    let rest = none_more p q (start + 1) len
    (λ i low. let next : start + suc i ≡ start + 1 + i = omega arith in subst (λ k. q k ≡ p k) next (same (suc i) (omega (arith, low))))
    (subst (λ k. q k ≡ false) one out) in
    λ i. cond (first i) (start ∷ rest i) (rest i)

module _ (h : History) (day later : Date) (hold : Hold) where
  abbrev placed : Date × Hold
  placed = (day, hold)

  abbrev undone : List Change
  undone = PlacedHold day hold ∷ ReleasedHold later (length (holds h) + 1) ∷ []

  -- the hold of that number, of these holds, is released on none of these days, and reaches the deposit
  abbrev live_by : (ℕ → Option Date) → List (Date × Hold) → ℕ → Deposit → ℕ → Bool
  live_by released hs n deposit k = is_none (released k) && option_map_or (λ found. reaches found.1.target n deposit) (item_numbered hs k) false

  -- the days of release, once the new hold is released too
  abbrev released_then : ℕ → Option Date
  released_then k = option_or (release_day h k) (option_or (if length (holds h) + 1 == k then Some later else None) None)

  pub holds_undone : (n : ℕ) (deposit : Deposit) → live_holds (with_changes h undone) n deposit ≡ live_holds h n deposit
  holds_undone n deposit =
      (λ i. let hs = one_hold h day hold (ReleasedHold later (length (holds h) + 1) ∷ []) refl i in filter (live_by (λ k. released_grown h undone k i) hs n deposit) (numbers (length hs)))
      ∙ ap (λ count. filter among (numbers count)) one_more
      ∙ none_more (live_by (release_day h) (holds h) n deposit) among 1 (length (holds h)) as_before released
    where
      among : ℕ → Bool
      among = live_by released_then (holds h ++ placed ∷ []) n deposit

      one_more : length (holds h ++ placed ∷ []) ≡ suc (length (holds h))
      one_more = omega (arith, length-append (holds h) (placed ∷ []))

      as_before : (i : ℕ) → i < length (holds h) → among (1 + i) ≡ live_by (release_day h) (holds h) n deposit (1 + i)
      as_before i low =
          let other : (length (holds h) + 1 == 1 + i) ≡ false = grind (arith, nat_tests, low) in
          let there = there_is (holds h) i low in
          let one : suc i ≡ 1 + i = omega arith in
          let front : item_numbered (holds h ++ placed ∷ []) (1 + i) ≡ item_numbered (holds h) (1 + i) = subst (λ k. item_numbered (holds h ++ placed ∷ []) k ≡ item_numbered (holds h) k) one (numbered_front (holds h) (placed ∷ []) (suc i) there.0 there.1 ∙ sym there.1) in
          let day_as_before : released_then (1 + i) ≡ release_day h (1 + i) = ap (λ b. option_or (release_day h (1 + i)) (option_or (if b then Some later else None) None)) other ∙ or_none (release_day h (1 + i)) in
          λ j. is_none (day_as_before j) && option_map_or (λ found. reaches found.1.target n deposit) (front j) false

      some_day : (o : Option Date) → is_none (option_or o (Some later)) ≡ false
      some_day None = refl
      some_day (Some on) = refl

      released : among (1 + length (holds h)) ≡ false
      released =
          let it : (length (holds h) + 1 == 1 + length (holds h)) ≡ true = grind (arith, nat_tests) in
          let gone : is_none (released_then (1 + length (holds h))) ≡ false = ap (λ b. is_none (option_or (release_day h (1 + length (holds h))) (option_or (if b then Some later else None) None))) it ∙ some_day (release_day h (1 + length (holds h))) in
          ap (λ b. b && option_map_or (λ found. reaches found.1.target n deposit) (item_numbered (holds h ++ placed ∷ []) (1 + length (holds h))) false) gone

  pub rows_undone : due_rows (with_changes h undone) ≡ due_rows h
  rows_undone =
      rows_stay h (with_changes h undone) (same_deposits h undone refl)
      (λ deposit. ap (λ o. option_map_or (due_of deposit.description.closed) o Never) (last_said-append (years_in deposit.description.class) h.changes undone))
      holds_undone

-- ---- a class gets other years, and its old ones back

module _ (h : History) (day later : Date) (name : List ℕ) (other years : Option ℕ) (were : years_of h name ≡ Some years) where
  abbrev given_back : List Change
  given_back = DefinedClass day name other ∷ DefinedClass later name years ∷ []

  years_back : (class : List ℕ) → years_of (with_changes h given_back) class ≡ years_of h class
  years_back class =
      last_said-append (years_in class) h.changes given_back
      ∙ by_Bool (bytes_eq name class) (λ same. rw same (sym were ∙ ap (years_of h) ((bytes_eq-Decides name class).0 same))) (λ other. rw other refl)

  pub days_back : (deposit : Deposit) → due (with_changes h given_back) deposit ≡ due h deposit
  days_back deposit = ap (λ o. option_map_or (due_of deposit.description.closed) o Never) (years_back deposit.description.class)

  pub rows_back : due_rows (with_changes h given_back) ≡ due_rows h
  rows_back = rows_stay h (with_changes h given_back) (same_deposits h given_back refl) days_back (λ n deposit i.
      let hs = same_holds h given_back refl i in
      filter (λ k. is_none ((released_grown h given_back k ∙ or_none (release_day h k)) i) && option_map_or (λ found. reaches found.1.target n deposit) (item_numbered hs k) false) (numbers (length hs)))
