-- What is kept of deposits, after a hold was placed.
use Rattle.office_refines.proofs.FirstLemmas.{◌≡◌, ℕ, suc, ◌+◌, ◌&&◌, pos, Bool, true, false, List, [], ◌∷◌, ◌++◌, filter, length, None, is_none, refl, ap, ◌∙◌, add-one, append-nil, arith, cond, if◌then◌else◌, range_with_len, option_map_or, ints, length_push, filter-append, Date, slice_get_last, item_numbered, numbers, History, Change, Deposit, Hold, PlacedHold, with_changes, holds, release_day, reaches, live_holds, item_front, range_last, same_released, one_hold}
use Rattle.office_refines.proofs.DuesGrown.{IsCounted, counted_if, same_passing}

module _ (h : History) (day : Date) (hold : Hold) (not_yet : release_day h (1 + length (holds h)) ≡ None) where
  abbrev more : List Change
  more = PlacedHold day hold ∷ []

  abbrev longer : History
  longer = with_changes h more

  abbrev it : Date × Hold
  it = (day, hold)

  -- the hold of a number, of these holds, is live and reaches the deposit
  abbrev live_among : List (Date × Hold) → ℕ → Deposit → ℕ → Bool
  live_among hs n d k = is_none (release_day h k) && option_map_or (λ found. reaches found.1.target n d) (item_numbered hs k) false

  now : (n : ℕ) (d : Deposit) → live_holds longer n d ≡ filter (live_among (holds h ++ it ∷ []) n d) (range_with_len 1 (suc (length (holds h))))
  now n d =
      (λ i. let hs = one_hold h day hold [] refl i in filter (λ k. is_none (same_released h more (λ m. refl) k i) && option_map_or (λ found. reaches found.1.target n d) (item_numbered hs k) false) (numbers (length hs)))
      ∙ ap (λ len. filter (live_among (holds h ++ it ∷ []) n d) (range_with_len 1 len)) (length_push (holds h) it ∙ add-one (length (holds h)))

  count_more : (n : ℕ) (d : Deposit) → length (live_holds longer n d) ≡ length (live_holds h n d) + (if reaches hold.target n d then 1 else 0)
  count_more n d =
      let hs = holds h in
      let q = live_among (hs ++ it ∷ []) n d in
      let last : q (1 + length hs) ≡ reaches hold.target n d =
      (let one : 1 + length hs ≡ suc (length hs) = omega arith in
      λ i. is_none (not_yet i) && option_map_or (λ found. reaches found.1.target n d) ((ap (item_numbered (hs ++ it ∷ [])) one ∙ slice_get_last hs it []) i) false) in
      ap length (now n d ∙ ap (filter q) (range_last 1 (length hs)) ∙ filter-append q (numbers (length hs)) ((1 + length hs) ∷ []))
      ∙ one_more (q (1 + length hs)) (1 + length hs) (filter q (numbers (length hs)))
      ∙ (λ i. length (same_passing q (live_among hs n d) 1 (length hs) (λ m low high. ap (λ o. is_none (release_day h m) && option_map_or (λ found. reaches found.1.target n d) o false) (item_front hs (it ∷ []) m high)) i)
      + (if last i then 1 else 0))
    where
      one_more : (b : Bool) (x : ℕ) (xs : List ℕ) → length (xs ++ cond b (x ∷ []) []) ≡ length xs + (if b then 1 else 0)
      one_more true x xs = length_push xs x
      one_more false x xs = omega (arith, ap length (append-nil xs))

  pub counted_placed : IsCounted h more (pos 1) hold.target
  counted_placed n d = up (length (live_holds h n d)) (length (live_holds longer n d)) (reaches hold.target n d) (count_more n d)
    where
      up : (a b : ℕ) (c : Bool) → b ≡ a + (if c then 1 else 0) → counted_if c (pos 1) a ≡ pos b
      up a b true e = omega (arith, ints, e)
      up a b false e = let same : a ≡ b = omega (arith, e) in ap pos same
