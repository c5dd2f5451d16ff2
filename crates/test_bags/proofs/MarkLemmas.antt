-- Texts with marks.
use Rattle.std.proofs.Common.{◌≡◌, ◌<◌, ◌≤◌, ◌+◌, ℕ, zero, suc, List, [], length, drop, get_or, inl, inr, Bor, refl, ap, sym, subst, add-one, drop-cons}
use Rattle.std.proofs.lemmas.List.{drop_all}
use Rattle.std.specs.Str.Pattern.{FindsText}
use Rattle.std.specs.Str.Replace.{ReplacesMatches}
use Rattle.test_bags.specs.Marks.{texts, Replaces, Means}

-- the clause of `replace`, of what the pattern lends
of_text : (meaning : List ℕ) (n : ℕ) (mark : Bor (List ℕ)) (given told : List ℕ)
    → ReplacesMatches (λ m. FindsText m.now) (λ m k. k.now ≡ m.now) meaning n mark given told
    → ReplacesMatches FindsText (λ m k. k ≡ m) meaning n mark.now given told
of_text meaning zero mark given told found = found
of_text meaning (suc n) mark given told (a, b, next, rest, found, same, after, is) = (
  a,
  b,
  next.now,
  rest,
  found,
  same,
  elim after [
    | inl past ↦ inl (past.0, of_text meaning n next _ rest past.1)
    | inr (at, inl none) ↦ inr (at, inl none)
    | inr (at, inr (c, t, more, cut, then, made)) ↦ inr (at, inr (c, t, more, cut, of_text meaning n next t more then, made))
  ],
  is,
)

pub replaced_in_text : (meaning : List ℕ) (mark : Bor (List ℕ)) (given told : List ℕ)
    → ((n : ℕ) × ReplacesMatches (λ m. FindsText m.now) (λ m k. k.now ≡ m.now) meaning n mark given told)
    → Replaces mark.now meaning given told
replaced_in_text meaning mark given told (n, replaced) = (n, of_text meaning n mark given told replaced)

-- what an index past the end gives
abbrev pub no_mark : Bor (List ℕ) × Bor (List ℕ)
no_mark = (record { ref_ptr = (0, 0); now = [] }, record { ref_ptr = (0, 0); now = [] })

-- the next mark of a table, and then those after it
pub next_mark : (marks : List (Bor (List ℕ) × Bor (List ℕ))) (index : ℕ) (given lent between told : List ℕ)
    → index < length marks → lent ≡ given
    → ((n : ℕ) × ReplacesMatches (λ m. FindsText m.now) (λ m k. k.now ≡ m.now) (get_or marks index no_mark).1.now n (get_or marks index no_mark).0 lent between)
    → Means (texts (drop (index + 1) marks)) between told
    → Means (texts (drop index marks)) given told
next_mark marks index given lent between told more same replaced left =
    let mark = get_or marks index no_mark in
    let after : drop (index + 1) marks ≡ drop (suc index) marks = ap (λ n. drop n marks) (add-one index) in
    let rest : Means (texts (drop (suc index) marks)) between told = subst (λ those. Means (texts those) between told) after left in
    let one : Replaces mark.0.now mark.1.now given between =
    subst (λ text. Replaces mark.0.now mark.1.now text between) same (replaced_in_text mark.1.now mark.0 lent between replaced) in
    subst (λ those. Means (texts those) given told) (sym (drop-cons marks index no_mark more)) (between, one, rest)

-- past the last mark the text stays
pub no_more : (marks : List (Bor (List ℕ) × Bor (List ℕ))) (index : ℕ) (text : List ℕ) → length marks ≤ index
    → Means (texts (drop index marks)) text text
no_more marks index text past = subst (λ those. Means (texts those) text text) (sym (drop_all index marks past)) refl
