-- Reading the transfer form.
use Rattle.bag_text.proofs.FirstLemmas.{◌≡◌, ℕ, zero, suc, ◌+◌, ◌-◌, ◌<◌, List, [], ◌∷◌, ◌++◌, length, get_or, drop, refl, sym, ap, ◌∙◌, arith, drop_more, Option, Some, None, Short, SetFault, Memory, ◌>>=◌, FailsAs, literal_at, files_at, entry_at, named_set_fault, File, Result, Ok, Err, fronted, again_onto, nothing_onto}

literal_nil : (w : List ℕ) → 0 < length w → literal_at w [] ≡ Err Short
unfolding literal_at
literal_nil [] h = absurd (omega arith)
literal_nil (a ∷ w) h = refl

pub literal_short : (w : List ℕ) (i : ℕ) (t : List ℕ) → i < length w → length t ≡ 0 → literal_at (drop i w) t ≡ Err Short
literal_short w i [] lt e = rw (drop_more w i 0 lt) (literal_nil (get_or w i 0 ∷ drop (i + 1) w) (omega arith))
literal_short w i (b ∷ t) lt e = absurd (omega arith)

-- ---- one file after the other

pub at_fault : (whole left : ℕ) (before text : List ℕ) (fault : SetFault) → entry_at (whole - length text) left before text ≡ Err fault → files_at whole left before text ≡ Err fault
unfolding files_at
at_fault whole zero before text fault e = rw e refl
at_fault whole (suc more) before text fault e = rw e refl

pub at_end : (whole left : ℕ) (before text : List ℕ) → entry_at (whole - length text) left before text ≡ Ok None → files_at whole left before text ≡ Ok []
unfolding files_at
at_end whole zero before text e = rw e refl
at_end whole (suc more) before text e = rw e refl

pub at_file : (whole more : ℕ) (before text : List ℕ) (file : File × List ℕ) → entry_at (whole - length text) (suc more) before text ≡ Ok (Some file) → files_at whole (suc more) before text ≡ (files_at whole more file.0.path file.1 >>= λ files. Ok (file.0 ∷ files))
unfolding files_at
at_file whole more before text file e = rw e refl

-- ---- the steps of the loop

pub goes_on : (front now : List File) (whole offset left : ℕ) (before text : List ℕ) (o : Option (File × List ℕ)) (file : File × List ℕ) (total : Result (List File) SetFault)
    → 0 < left → offset ≡ whole - length text → now ≡ front ++ file.0 ∷ [] → entry_at offset left before text ≡ Ok o → o ≡ Some file
    → fronted front (files_at whole left before text) ≡ total → fronted now (files_at whole (left - 1) file.0.path file.1) ≡ total
goes_on front now whole offset zero before text o file total lt at is e some so_far = absurd (omega arith)
goes_on front now whole offset (suc more) before text o file total lt at is e some so_far =
    let less : suc more - 1 ≡ more = omega arith in
    let found : entry_at (whole - length text) (suc more) before text ≡ Ok (Some file) = rw (← at, ← some) e in
    rw (less, is) (sym (ap (fronted front) (at_file whole more before text file found) ∙ again_onto front file.0 (files_at whole more file.0.path file.1)) ∙ so_far)

pub is_done : (front : List File) (whole offset left : ℕ) (before text : List ℕ) (o : Option (File × List ℕ)) (total : Result (List File) SetFault)
    → offset ≡ whole - length text → entry_at offset left before text ≡ Ok o → o ≡ None
    → fronted front (files_at whole left before text) ≡ total → total ≡ Ok front
is_done front whole offset left before text o total at e none so_far =
    let found : entry_at (whole - length text) left before text ≡ Ok None = rw (← at, ← none) e in
    sym so_far ∙ ap (fronted front) (at_end whole left before text found) ∙ nothing_onto front

pub ends : (front : List File) (whole offset left : ℕ) (before text : List ℕ) (fault : SetFault) (total : Result (List File) SetFault)
    → offset ≡ whole - length text → entry_at offset left before text ≡ Err fault
    → fronted front (files_at whole left before text) ≡ total → FailsAs (named_set_fault fault) total
ends front whole offset left before text fault total at e so_far =
    let found : entry_at (whole - length text) left before text ≡ Err fault = rw (← at) e in
    is_that fault (sym so_far ∙ ap (fronted front) (at_fault whole left before text fault found))
  where
    is_that : (f : SetFault) → total ≡ Err f → FailsAs (named_set_fault f) total
    is_that Memory h = tt
    is_that _ h = h
