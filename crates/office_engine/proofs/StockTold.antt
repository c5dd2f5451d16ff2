-- The contents that are held, and how many they are with how many bytes, by the contents of the files.
use Rattle.office_engine.proofs.Common.{◌≡◌, nat_le, ℕ, ℤ, pos, List, [], ◌∷◌, ◌++◌, map, length, bytes_eq, sum, Some, Option, Bool, true, ◌≤◌, ◌>>=◌, rules, refl, sym, ap, ap₂, subst, ◌∙◌, inl, inr, IsDistinct, flat_map, map-append, length-map, FileRow, ContentRow, Tables, Database, File, tables_of, contents_of, AreContents, History, kept_numbers, file_row, answer_if, same_Some, Pictures, map-map, IsPermutation, length_permutation, sum_by-IsPermutation, Has}
use Rattle.office_history.specs.Stocks.{contents, Stock, stock, files_of}
use Rattle.office_core.proofs.OptionLemmas.{some_and_then, some_if}
use Rattle.office_by_rows.specs.Stock.{max_total, stock_by}
use Rattle.office_by_rows.specs.Values.{all_told, count_of}
use Rattle.std.proofs.lemmas.List.Sums.{sum-map}
use Rattle.bag_text.proofs.ElementLemmas as texts
use Rattle.office_history.specs.Lists.{in_first_places}
use Rattle.office_history.proofs.MemberLemmas.{first_places_once, first_places_have, has_in_places}
use Rattle.office_engine.proofs.SameOnce.{same_once}

to_texts : {X : Type 0} (xs : List X) (x : X) → Has xs x → texts.Has xs x
to_texts [] x there = absurd there
to_texts (y ∷ xs) x (inl same) = inl (sym same)
to_texts (y ∷ xs) x (inr more) = inr (to_texts xs x more)

from_texts : {X : Type 0} (xs : List X) (x : X) → texts.Has xs x → Has xs x
from_texts [] x there = absurd there
from_texts (y ∷ xs) x (inl same) = inl (sym same)
from_texts (y ∷ xs) x (inr more) = inr (from_texts xs x more)

-- texts that stand once and are those of the files are the files' contents, each where it stands first, in another order
held_once : (files held : List (List ℕ)) → IsDistinct bytes_eq held → ((x : List ℕ) → Has files x → Has held x) → ((x : List ℕ) → Has held x → Has files x) → IsPermutation (in_first_places files) held
held_once files held once to back =
    same_once (in_first_places files) held (first_places_once files) once
    (λ x there. to x (from_texts files x (has_in_places x files (to_texts (in_first_places files) x there))))
    (λ x there. from_texts (in_first_places files) x (first_places_have x files (to_texts files x (back x there))))

same_stock : (files held : List (List ℕ)) → IsPermutation (in_first_places files) held → (length held ≡ length (in_first_places files)) × (sum (map length held) ≡ sum (map length (in_first_places files)))
same_stock files held h = (length_permutation (in_first_places files) held h, sum-map length held ∙ sum_by-IsPermutation length (in_first_places files) held h ∙ sym (sum-map length (in_first_places files)))

-- what the files of the pictured rows have is what those of the bags have
module _ {A F : Type 0} where
  gathered : (row : ℕ → A → F) (of : F → List ℕ) (own : A → List ℕ) → ((n : ℕ) (a : A) → of (row n a) ≡ own a) → (files : ℕ → List A) (ns : List ℕ)
      → map of (flat_map (λ n. map (row n) (files n)) ns) ≡ map own (flat_map files ns)
  gathered row of own same files [] = refl
  gathered row of own same files (n ∷ ns) =
      map-append of (map (row n) (files n)) (flat_map (λ n. map (row n) (files n)) ns)
      ∙ ap₂ ◌++◌ (each (files n)) (gathered row of own same files ns)
      ∙ sym (map-append own (files n) (flat_map files ns))
    where
      each : (xs : List A) → map of (map (row n) xs) ≡ map own xs
      each [] = refl
      each (x ∷ xs) = rw (same n x) (ap (λ more. own x ∷ more) (each xs))

-- counts are told
counts_told : (parts : List ℕ) → all_told count_of (map pos parts) ≡ Some parts
counts_told [] = refl
counts_told (part ∷ parts) = ap (λ o. o >>= λ others. Some (part ∷ others)) (counts_told parts)

-- ---- what a pictured database holds

abbrev bytes_of : ContentRow → List ℕ
bytes_of c = c.bytes

abbrev texts_of : History → List (List ℕ)
texts_of h = map (λ (file : File). file.content) (flat_map (files_of h) (kept_numbers h))

module _ (h : History) (db : Database) (pictured : Pictures h db) (are : AreContents (map (λ (f : FileRow). f.content) (tables_of db).files) (contents_of db)) where
  -- the texts of the files are those of the kept bags
  texts_are : map (λ (f : FileRow). f.content) (tables_of db).files ≡ texts_of h
  texts_are =
      ap (λ (t : Tables). map (λ (f : FileRow). f.content) t.files) pictured.are
      ∙ gathered file_row (λ (f : FileRow). f.content) (λ (file : File). file.content) (λ n file. refl) (files_of h) (kept_numbers h)

  held : AreContents (texts_of h) (contents_of db)
  held = subst (λ texts. AreContents texts (contents_of db)) texts_are are

  -- they are exactly the contents of the kept bags
  pub contents_held : IsPermutation (contents h) (map bytes_of (contents_of db))
  contents_held = held_once (texts_of h) (map bytes_of (contents_of db)) held.once held.held held.used

  abbrev held_bytes : List (List ℕ)
  held_bytes = map bytes_of (contents_of db)

  equal : (length held_bytes ≡ length (contents h)) × (sum (map length held_bytes) ≡ sum (map length (contents h)))
  equal = same_stock (texts_of h) held_bytes contents_held

  counted : length (map (λ (c : ContentRow). c.size) (contents_of db)) ≡ length (contents h)
  counted = length-map (contents_of db) (λ (c : ContentRow). c.size) ∙ sym (length-map (contents_of db) bytes_of) ∙ equal.0

  -- the stock of so many bytes, if a count of 64 bits tells them
  abbrev of_bytes : ℕ → Bool → Option Stock
  of_bytes bytes fits = answer_if fits bytes >>= λ bytes. Some (record { contents = length (contents h); bytes = bytes })

  told : stock_by (contents_of db) ≡ of_bytes (stock h).bytes (nat_le (stock h).bytes max_total)
  told =
      let sizes = ap (all_told count_of) (held.sizes ∙ sym (map-map pos length held_bytes)) ∙ counts_told (map length held_bytes) in
      (λ i. (sizes i >>= λ parts. answer_if (nat_le (sum parts) max_total) (sum parts)) >>= λ bytes. Some (record { contents = counted i; bytes = bytes }))
      ∙ ap (λ bytes. of_bytes bytes (nat_le bytes max_total)) equal.1

  -- so the stock that they are is the history's
  pub stock_is : (found : Stock) → stock_by (contents_of db) ≡ Some found → found ≡ stock h
  stock_is found e =
      let bytes = some_and_then (answer_if (nat_le (stock h).bytes max_total) (stock h).bytes) (λ bytes. Some (record { contents = length (contents h); bytes = bytes })) found (sym told ∙ e) in
      let same : (stock h).bytes ≡ bytes.0 = same_Some _ _ (some_if (nat_le (stock h).bytes max_total) (Some (stock h).bytes) bytes.0 bytes.1).1 in
      sym (same_Some _ _ bytes.2) ∙ (λ i. record { contents = length (contents h); bytes = sym same i })

  -- and they tell it, if its bytes are few enough
  pub stock_told : (stock h).bytes ≤ max_total → stock_by (contents_of db) ≡ Some (stock h)
  stock_told fits = let low : nat_le (stock h).bytes max_total ≡ true = search (rules, fits) in told ∙ ap (of_bytes (stock h).bytes) low
