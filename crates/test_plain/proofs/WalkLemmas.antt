-- What going over a history gives.
use Rattle.test_plain.proofs.Common.{◌≡◌, ◌≢◌, ℕ, ◌+◌, ◌-◌, ◌<◌, ◌≤◌, suc, zero, Bool, true, false, List, [], ◌∷◌, ◌++◌, length, Option, Some, None, option_map, refl, sym, ap, ◌∙◌, arith, append_assoc, length-append, filter, if◌then◌else◌, cond, drop, get_or, drop-cons, is_none, is_some, not, bytes_eq, range_with_len, position_from, filter_map, cons_option, Bor, Result, IfOk, IfOk-weaker, first_some, filing_refusals, bag_refusals, refusal, Date, History, Change, Deposited, PlacedHold, Deposit, with_changes, deposit_in, deposits, holds, accession_of, has_accession, item_numbered, IsWithin, HasRoom, Refusal}
use Rattle.office_history.proofs.HistoryLemmas.{one_deposit, one_hold, same_deposits, same_holds}
use Rattle.std.proofs.lemmas.Iterator.Adapters.{position_from-zero}
use Rattle.std.specs.declared.alloc.AllocError.{AllocError}
use Rattle.std.proofs.lemmas.Bool.Decides.{nat_tests}
use Rattle.office_rows.specs.Rows.{max_limit}
use Rattle.office_core.specs.Descriptions.{Description}
use Rattle.office_core.specs.declared.request.Request.TheVariants as requests

-- no more deposits and holds were accepted than the greatest limit
pub few : (h : History) → IsWithin h → (length (deposits h) ≤ max_limit) × (length (holds h) ≤ max_limit)
few h within = (
  grind (arith, nat_tests, within.deposits_in, within.deposits_limit),
  grind (arith, nat_tests, within.holds_in, within.holds_limit),
)

within_so : (h : History) (more : List Change) → IsWithin h → length (deposits (with_changes h more)) ≤ h.max_deposits → length (holds (with_changes h more)) ≤ h.max_holds → IsWithin (with_changes h more)
within_so h more within deposits_in holds_in = record { deposits_in = deposits_in; holds_in = holds_in; deposits_limit = within.deposits_limit; holds_limit = within.holds_limit }

-- a change for which there is room keeps the limits
pub within_grown : (h : History) (change : Change) → HasRoom h change → IsWithin h → IsWithin (with_changes h (change ∷ []))
within_grown h (Deposited day deposit) room within =
    within_so h _ within (omega (arith, room, ap length (one_deposit h day deposit [] refl), length-append (deposits h) ((day, deposit) ∷ []))) (omega (arith, within.holds_in, ap length (same_holds h (Deposited day deposit ∷ []) refl)))
within_grown h (PlacedHold day hold) room within =
    within_so h _ within (omega (arith, within.deposits_in, ap length (same_deposits h (PlacedHold day hold ∷ []) refl))) (omega (arith, room, ap length (one_hold h day hold [] refl), length-append (holds h) ((day, hold) ∷ [])))
within_grown h change room within =
    within_so h _ within (omega (arith, within.deposits_in, ap length (same_deposits h (change ∷ []) refl))) (omega (arith, within.holds_in, ap length (same_holds h (change ∷ []) refl)))

-- the number of the first deposit that has this accession, after this number of others
abbrev pub accession_behind : ℕ → List ℕ → List (Date × Deposit) → Option ℕ
accession_behind n accession [] = None
accession_behind n accession (d ∷ ds) = if bytes_eq d.1.description.accession accession then Some (n + 1) else accession_behind (n + 1) accession ds

behind_is : (n : ℕ) (accession : List ℕ) (ds : List (Date × Deposit)) → accession_behind n accession ds ≡ option_map (λ place. place + 1) (position_from (has_accession accession) n ds)
behind_is n accession [] = refl
behind_is n accession (d ∷ ds) = by (has_accession accession d) (behind_is (n + 1) accession ds)
  where
    by : (b : Bool) → accession_behind (n + 1) accession ds ≡ option_map (λ place. place + 1) (position_from (has_accession accession) (n + 1) ds)
        → cond b (Some (n + 1)) (accession_behind (n + 1) accession ds) ≡ option_map (λ place. place + 1) (cond b (Some n) (position_from (has_accession accession) (n + 1) ds))
    by true h = refl
    by false h = h

pub accession_found : (h : History) (accession : List ℕ) → accession_behind 0 accession (filter_map deposit_in h.changes) ≡ accession_of h accession
accession_found h accession = behind_is 0 accession (deposits h) ∙ ap (option_map (λ place. place + 1)) (sym (position_from-zero (has_accession accession) (deposits h)))

-- the item of a number, after the first
pub numbered_next : {A : Type 0} (x : A) (xs : List A) (n : ℕ) → n ≢ 1 → item_numbered (x ∷ xs) n ≡ item_numbered xs (n - 1)
numbered_next x xs zero h = refl
numbered_next x xs (suc zero) h = absurd (h refl)
numbered_next x xs (suc (suc k)) h = let is : suc k ≡ suc (suc k) - 1 = omega arith in ap (item_numbered xs) is

-- numbers up to an end, the first taken off
pub range_more : (n end : ℕ) → n < end → range_with_len n (end - n) ≡ n ∷ range_with_len (n + 1) (end - (n + 1))
range_more n end h = let is : end - n ≡ suc (end - (n + 1)) = omega arith in ap (range_with_len n) is

-- numbers that pass a test, one after the other
abbrev from : (ℕ → Bool) → ℕ → ℕ → List ℕ
from test n end = filter test (range_with_len n (end - n))

from_more : (test : ℕ → Bool) (n end : ℕ) → n < end → from test n end ≡ cond (test n) (n ∷ from test (n + 1) end) (from test (n + 1) end)
from_more test n end h = ap (filter test) (range_more n end h)

pub filter_took : (test : ℕ → Bool) (n end : ℕ) (so_far all : List ℕ) → n < end → test n ≡ true
    → so_far ++ filter test (range_with_len n (end - n)) ≡ all → (so_far ++ n ∷ []) ++ filter test (range_with_len (n + 1) (end - (n + 1))) ≡ all
filter_took test n end so_far all h e is =
    let more : from test n end ≡ n ∷ from test (n + 1) end = from_more test n end h ∙ rw e refl in
    append_assoc so_far (n ∷ []) (from test (n + 1) end) ∙ rw (← more) is

pub filter_passed : (test : ℕ → Bool) (n end : ℕ) (so_far all : List ℕ) → n < end → test n ≡ false
    → so_far ++ filter test (range_with_len n (end - n)) ≡ all → so_far ++ filter test (range_with_len (n + 1) (end - (n + 1))) ≡ all
filter_passed test n end so_far all h e is =
    let more : from test n end ≡ from test (n + 1) end = from_more test n end h ∙ rw e refl in
    rw (← more) is

-- what a test for nothing answered
pub none_said : {A : Type 0} (o : Option A) (b : Bool) → is_some o ≡ not b → is_none o ≡ b
none_said None true e = refl
none_said None false e = absurd cc
none_said (Some x) true e = absurd cc
none_said (Some x) false e = refl

-- items one after the other: those that pass a test, and what is told of them
module _ {A : Type 0} (xs : List A) (i : ℕ) (d : A) (low : i < length xs) where
  behind : drop i xs ≡ get_or xs i d ∷ drop (i + 1) xs
  behind = let one : suc i ≡ i + 1 = omega arith in drop-cons xs i d low ∙ ap (λ k. get_or xs i d ∷ drop k xs) one

  pub item_passes : (test : A → Bool) (before all : List A) → test (get_or xs i d) ≡ true
      → before ++ filter test (drop i xs) ≡ all → (before ++ get_or xs i d ∷ []) ++ filter test (drop (i + 1) xs) ≡ all
  item_passes test before all e is =
      let more : filter test (drop i xs) ≡ get_or xs i d ∷ filter test (drop (i + 1) xs) = ap (filter test) behind ∙ ap (λ b. cond b (get_or xs i d ∷ filter test (drop (i + 1) xs)) (filter test (drop (i + 1) xs))) e in
      append_assoc before (get_or xs i d ∷ []) (filter test (drop (i + 1) xs)) ∙ ap (λ ys. before ++ ys) (sym more) ∙ is

  pub item_fails : (test : A → Bool) (before all : List A) → test (get_or xs i d) ≡ false
      → before ++ filter test (drop i xs) ≡ all → before ++ filter test (drop (i + 1) xs) ≡ all
  item_fails test before all e is =
      let more : filter test (drop i xs) ≡ filter test (drop (i + 1) xs) = ap (filter test) behind ∙ ap (λ b. cond b (get_or xs i d ∷ filter test (drop (i + 1) xs)) (filter test (drop (i + 1) xs))) e in
      ap (λ ys. before ++ ys) (sym more) ∙ is

  module _ {B : Type 0} (tell : A → Option B) (before all : List B) where
    pub item_told : (x : B) → tell (get_or xs i d) ≡ Some x
        → before ++ filter_map tell (drop i xs) ≡ all → (before ++ x ∷ []) ++ filter_map tell (drop (i + 1) xs) ≡ all
    item_told x e is =
        let more : filter_map tell (drop i xs) ≡ x ∷ filter_map tell (drop (i + 1) xs) = ap (filter_map tell) behind ∙ ap (λ o. cons_option o (filter_map tell (drop (i + 1) xs))) e in
        append_assoc before (x ∷ []) (filter_map tell (drop (i + 1) xs)) ∙ ap (λ ys. before ++ ys) (sym more) ∙ is

    pub item_silent : tell (get_or xs i d) ≡ None
        → before ++ filter_map tell (drop i xs) ≡ all → before ++ filter_map tell (drop (i + 1) xs) ≡ all
    item_silent e is =
        let more : filter_map tell (drop i xs) ≡ filter_map tell (drop (i + 1) xs) = ap (filter_map tell) behind ∙ ap (λ o. cons_option o (filter_map tell (drop (i + 1) xs))) e in
        ap (λ ys. before ++ ys) (sym more) ∙ is

-- the first of two lists of answers, one after the other
pub first_in_front : {A : Type 0} (front behind : List (Option A)) (x : A) → first_some front ≡ Some x → first_some (front ++ behind) ≡ Some x
first_in_front [] behind x e = cc
first_in_front (Some y ∷ front) behind x e = e
first_in_front (None ∷ front) behind x e = first_in_front front behind x e

pub first_behind : {A : Type 0} (front behind : List (Option A)) → first_some front ≡ None → first_some (front ++ behind) ≡ first_some behind
first_behind [] behind e = refl
first_behind (Some y ∷ front) behind e = cc
first_behind (None ∷ front) behind e = first_behind front behind e

-- the first of one answer
pub one_only : {A : Type 0} (o : Option A) → o ≡ first_some (o ∷ [])
one_only None = refl
one_only (Some x) = refl

pub place_stands : (h : History) (day : Date) (caller : List ℕ) (description : Description) (bag : Bor (List ℕ)) (x : Refusal) (r : Option Refusal)
    → r ≡ first_some (filing_refusals h day caller description) → r ≡ Some x → Some x ≡ refusal h day caller (requests.Deposit description bag)
place_stands h day caller description bag x r is e = sym (first_in_front (filing_refusals h day caller description) (bag_refusals h day description bag.now) x (sym is ∙ e))

pub place_passes : (h : History) (day : Date) (caller : List ℕ) (description : Description) (bag : Bor (List ℕ)) (p : Option Refusal) (r : Result (Option Refusal) AllocError)
    → p ≡ first_some (filing_refusals h day caller description) → p ≡ None
    → IfOk r (λ found. found ≡ first_some (bag_refusals h day description bag.now))
    → IfOk r (λ found. found ≡ refusal h day caller (requests.Deposit description bag))
place_passes h day caller description bag p r is e rest =
    IfOk-weaker r _ _ (λ found eq. eq ∙ sym (first_behind (filing_refusals h day caller description) (bag_refusals h day description bag.now) (sym is ∙ e))) rest
