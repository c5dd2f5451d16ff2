-- Writing the transfer form.
use Rattle.bag_text.proofs.Common.{◌≡◌, ℕ, ◌+◌, ◌<◌, ◌≤◌, List, ◌++◌, length, get_or, drop, map, sym, ap, ◌∙◌, append_assoc, IfOk, flat_map, drop_more, at_drop_all, append-nil, File, entry, set_text, IsBag, set_of, Result, Ok, Err}
use Rattle.std.proofs.lemmas.List.Concat.{flat_map-cons}
use Rattle.bag_text.proofs.FormLemmas.{set_ok, set_again}

-- one entry more is written, one less is to be written
pub wrote_more : {X : Type 0} (g : X → File) (xs : List X) (i : ℕ) (d : X) (text now total : List ℕ)
    → i < length xs → now ≡ text ++ entry (g (get_or xs i d))
    → text ++ flat_map entry (map g (drop i xs)) ≡ total → now ++ flat_map entry (map g (drop (i + 1) xs)) ≡ total
wrote_more g xs i d text now total lt is so_far =
    let later : List _ = map g (drop (i + 1) xs) in
    let left : flat_map entry (map g (drop i xs)) ≡ entry (g (get_or xs i d)) ++ flat_map entry later =
    ap (λ (ys : List _). flat_map entry (map g ys)) (drop_more xs i d lt) ∙ flat_map-cons entry (g (get_or xs i d)) later in
    ap (λ (t : List ℕ). t ++ flat_map entry later) is ∙ append_assoc text (entry (g (get_or xs i d))) (flat_map entry later) ∙ ap (λ (t : List ℕ). text ++ t) (sym left) ∙ so_far

-- all is written where no file is left
pub wrote_all : {X : Type 0} (g : X → File) (xs : List X) (i : ℕ) (text total : List ℕ) → length xs ≤ i → text ++ flat_map entry (map g (drop i xs)) ≡ total → text ≡ total
wrote_all g xs i text total le so_far = sym (append-nil text) ∙ sym (at_drop_all (λ (ys : List _). text ++ flat_map entry (map g ys)) xs i le) ∙ so_far

-- What was written of a bag is read as that bag.
pub reads_back : {X E : Type 0} (view : X → List ℕ) (files bag : List File) (result : Result X E) → files ≡ bag → IsBag bag → IfOk result (λ text. view text ≡ set_text files) → IfOk result (λ text. set_of (view text) ≡ Ok bag)
reads_back view files bag (Ok text) same is h = ap set_of (h ∙ ap set_text same) ∙ set_again bag is
reads_back view files bag (Err e) same is h = tt

-- A text that is read as a bag is what is written of it.
pub writes_back : {X E : Type 0} (view : X → List ℕ) (files bag : List File) (result : Result X E) → files ≡ bag → IfOk result (λ text. view text ≡ set_text files) → (text : List ℕ) → set_of text ≡ Ok bag → IfOk result (λ written. view written ≡ text)
writes_back view files bag (Ok written) same h text read = h ∙ ap set_text same ∙ sym (set_ok text bag read).text
writes_back view files bag (Err e) same h text read = tt
