-- Reading the value of a `Payload-Oxum` gives the counts that it names.
use Rattle.bag_check.proofs.FirstLemmas.{eqb-true, some_if, ◌≡◌, one-add, ℕ, ◌≤◌, Bool, true, cond, not, eqb, ◌&&◌, List, [], ◌∷◌, ◌++◌, length, refl, sym, ap, ◌∙◌, arith, append_assoc, Option, Some, None, nat_le, list_all, is_ascii_digit, and_parts, and_from, nat_tests, take-append-drop, same_Some, number_from, IsNumber, NamesCounts, digit_len, digits_in, after_digits, number_spelled, after_stop, number_at_end, oxum_with_files, with_rest, with_bytes, counts_of, prefix_len-le-length, is_blank, AreBlanks, Stops, same_run, blanks_stop}
use Rattle.bag_text.proofs.CaseLemmas.{by_Bool, by_Option}

-- ---- the digits at the front

-- they stand within the text
pub digits_fit : (t : List ℕ) → digit_len t ≤ length t
digits_fit t = prefix_len-le-length (λ b. not (not (is_ascii_digit b))) t

-- they are digits
pub digits_all : (t : List ℕ) → list_all is_ascii_digit (digits_in t) ≡ true
digits_all [] = refl
digits_all (b ∷ t) = by_Bool (is_ascii_digit b)
    (λ is. rw (is, one-add) (and_from (is_ascii_digit b) (list_all is_ascii_digit (digits_in t)) is (digits_all t)))
    (λ is. rw is refl)

-- no digit follows them
digits_stop : (t : List ℕ) → Stops is_ascii_digit (after_digits t)
digits_stop [] = tt
digits_stop (b ∷ t) = by_Bool (is_ascii_digit b) (λ is. rw (is, one-add) (digits_stop t)) (λ is. rw is is)

-- a text is its digits and what follows them
cut : (t : List ℕ) → digits_in t ++ after_digits t ≡ t
cut t = take-append-drop (digit_len t) t

-- digits that no digit follows are the digits at the front
run_found : (t xs r : List ℕ) → t ≡ xs ++ r → list_all is_ascii_digit xs ≡ true → Stops is_ascii_digit r → (digits_in t ≡ xs) × (after_digits t ≡ r)
run_found t xs r is all stops = same_run is_ascii_digit (digits_in t) xs (after_digits t) r (digits_all t) all (digits_stop t) stops (cut t ∙ is)

-- ---- numbers

-- the digits of a number are 1 to 20
abbrev is_short : List ℕ → Bool
is_short digits = nat_le 1 (length digits) && nat_le (length digits) 20

-- digits that are read spell that number
number_is : (digits : List ℕ) (n : ℕ) → list_all is_ascii_digit digits ≡ true → number_spelled digits ≡ Some n → IsNumber digits n
number_is digits n all e =
    let short = some_if (is_short digits) (Some (number_from 0 digits)) n e in
    let sizes = and_parts (nat_le 1 (length digits)) (nat_le (length digits) 20) short.0 in
    record { some = grind (arith, nat_tests, sizes.0); few = grind (arith, nat_tests, sizes.1); all = all; is = same_Some (number_from 0 digits) n short.1 }

-- digits that spell a number are read so
number_again : (digits : List ℕ) (n : ℕ) → IsNumber digits n → number_spelled digits ≡ Some n
number_again digits n is =
    let one : 1 ≤ length digits = is.some in
    let most : length digits ≤ 20 = is.few in
    let some : nat_le 1 (length digits) ≡ true = grind (arith, nat_tests) in
    let few : nat_le (length digits) 20 ≡ true = grind (arith, nat_tests) in
    ap (λ (x : Bool). cond x (Some (number_from 0 digits)) None) (and_from (nat_le 1 (length digits)) (nat_le (length digits) 20) some few) ∙ ap (λ (k : ℕ). Some k) is.is

-- ---- the parts of a value

-- what stands after a full stop
stop_is : (t rest : List ℕ) → after_stop t ≡ Some rest → t ≡ 46 ∷ rest
stop_is [] rest e = absurd cc
stop_is (b ∷ t) rest e =
    let stop = some_if (eqb b 46) (Some t) rest e in
    ap (λ (c : ℕ). c ∷ t) (eqb-true b 46 stop.0) ∙ ap (λ (r : List ℕ). 46 ∷ r) (same_Some t rest stop.1)

-- a number at the end has only blanks after it
last_is : (t : List ℕ) (n : ℕ) → number_at_end t ≡ Some n → AreBlanks (after_digits t) × (number_spelled (digits_in t) ≡ Some n)
last_is t n e = some_if (list_all is_blank (after_digits t)) (number_spelled (digits_in t)) n e

-- two numbers of which the second is read
with_files_is : (bytes b f : ℕ) (o : Option ℕ) → oxum_with_files bytes o ≡ Some (b, f) → (bytes ≡ b) × (o ≡ Some f)
with_files_is bytes b f None e = absurd cc
with_files_is bytes b f (Some files) e =
    let same : (bytes, files) ≡ (b, f) = same_Some (bytes, files) (b, f) e in
    (ap (λ (x : ℕ × ℕ). x.0) same, ap (λ (x : ℕ × ℕ). Some x.1) same)

-- a value of which counts are read names them
pub counts_is : (value : List ℕ) (b f : ℕ) → counts_of value ≡ Some (b, f) → NamesCounts value b f
counts_is value b f e = by_Option (number_spelled (digits_in value)) (λ none. let wrong = rw none at e in absurd cc) (λ bytes first. by_Option (after_stop (after_digits value))
    (λ none. let wrong = rw (first, none) at e in absurd cc)
    (λ rest stop.
    let both = with_files_is bytes b f (number_at_end rest) (rw (first, stop) at e) in
    let last = last_is rest f both.1 in
    let behind : after_digits value ≡ 46 ∷ (digits_in rest ++ after_digits rest) = stop_is (after_digits value) rest stop ∙ ap (λ (r : List ℕ). 46 ∷ r) (sym (cut rest)) in (
      digits_in value,
      digits_in rest,
      after_digits rest,
      sym (cut value) ∙ ap (λ (r : List ℕ). digits_in value ++ r) behind ∙ sym (append_assoc (digits_in value) (46 ∷ digits_in rest) (after_digits rest)),
      last.0,
      number_is (digits_in value) b (digits_all value) (first ∙ ap (λ (k : ℕ). Some k) both.0),
      number_is (digits_in rest) f (digits_all rest) last.1,
    )))

-- the counts that a value names are read of it
pub counts_again : (value : List ℕ) (b f : ℕ) → NamesCounts value b f → counts_of value ≡ Some (b, f)
counts_again value b f (first, second, after, is, blanks, bytes, files) =
    let whole : value ≡ first ++ (46 ∷ (second ++ after)) = is ∙ append_assoc first (46 ∷ second) after in
    let one = run_found value first (46 ∷ (second ++ after)) whole bytes.all refl in
    let two = run_found (second ++ after) second after refl files.all (blanks_stop after blanks) in
    let number : number_spelled (digits_in value) ≡ Some b = ap number_spelled one.0 ∙ number_again first b bytes in
    let rest : after_stop (after_digits value) ≡ Some (second ++ after) = ap after_stop one.1 in
    let only : list_all is_blank (after_digits (second ++ after)) ≡ true = ap (list_all is_blank) two.1 ∙ blanks in
    let last : number_at_end (second ++ after) ≡ Some f = ap (λ (x : Bool). cond x (number_spelled (digits_in (second ++ after))) None) only ∙ ap number_spelled two.0 ∙ number_again second f files in
    ap (λ (o : Option ℕ). with_bytes o (after_stop (after_digits value))) number ∙ ap (with_rest b) rest ∙ ap (oxum_with_files b) last
