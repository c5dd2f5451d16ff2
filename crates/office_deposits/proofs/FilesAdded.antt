-- The files of a deposit, and their contents, one after another.
use Rattle.office_deposits.proofs.Common.{◌≡◌, ℕ, zero, suc, ◌+◌, ◌≤◌, ◌<◌, ℤ, List, [], ◌∷◌, length, Some, refl, sym, ap, ◌∙◌, arith, drop, slice_index_or as get_or, slice_index_or, Bor, same_Some, Ok, MutBor, Database, Ghosts, Held, state, file_of, files_of, digests_of, with_file, GoesOnInTurn, GoesOnInside, StoresOnce, IsOffice, tables_of, TableFault, clean_first, with_files, contents_in, with_content_of, with_contents_of, Rewrites}
use Rattle.std.proofs.lemmas.List.{at_drop_all, at_drop_more}
use Rattle.sqlite.specs.State.{HasCleanDisk}
use Rattle.sha2.specs.Sha256.{sha256}

-- the digest at a place is that of the file's content
for_filing : (fs : List (Bor (List ℕ) × Bor (List ℕ))) (i : ℕ) (no_file : Bor (List ℕ) × Bor (List ℕ)) (no_digest : List ℕ) → i < length fs → slice_index_or (digests_of (files_of fs)) i no_digest ≡ sha256 (slice_index_or fs i no_file).1.now
for_filing [] i no_file no_digest low = absurd (omega arith)
for_filing (f ∷ fs) zero no_file no_digest low = refl
for_filing (f ∷ fs) (suc i) no_file no_digest low = for_filing fs i no_file no_digest (omega arith)

pub digest_at : (fs : List (Bor (List ℕ) × Bor (List ℕ))) (digests : List (List ℕ)) → digests ≡ digests_of (files_of fs) → (i : ℕ) (no_file : Bor (List ℕ) × Bor (List ℕ)) (no_digest : List ℕ) → i < length fs → slice_index_or digests i no_digest ≡ sha256 (slice_index_or fs i no_file).1.now
digest_at fs digests are i no_file no_digest low = ap (λ ds. slice_index_or ds i no_digest) are ∙ for_filing fs i no_file no_digest low

-- of these files, those before that place are there, and their contents
pub record AreAdded (n : ℤ) (fs : List (Bor (List ℕ) × Bor (List ℕ))) (i : ℕ) (old now : Database) : Type 0 where
  pub office : IsOffice now
  pub rows : with_files n (files_of (drop i fs)) (tables_of now) ≡ with_files n (files_of fs) (tables_of old)
  pub contents : with_contents_of (files_of (drop i fs)) (contents_in now) ≡ with_contents_of (files_of fs) (contents_in old)
  pub once : StoresOnce old → StoresOnce now

abbrev pub Adds : {S : Type 0} → Ghosts S → Held S → Held S → ℤ → List (Bor (List ℕ) × Bor (List ℕ)) → ℕ → Type 0
Adds g old now n fs i = HasCleanDisk (state g now) → IsOffice (state g old).now → AreAdded n fs i (state g old).now (state g now).now

module _ {S A B : Type 0} {g : Ghosts S} {old mid new : MutBor (Held S)} {x : A} {y : B} (before : GoesOnInTurn g old mid (Ok x)) (after : GoesOnInside g mid new (Ok y)) (n : ℤ) (fs : List (Bor (List ℕ) × Bor (List ℕ))) (i : ℕ) (there : Adds g old.now mid.now n fs i) where
  pub next_file : (d : Bor (List ℕ) × Bor (List ℕ)) → i < length fs
      → Rewrites {E = TableFault} g mid.now new.now (Ok y) (λ t. Some (with_file (record { deposit = n; path = (get_or fs i d).0.now; content = (get_or fs i d).1.now }) t)) (λ t k. with_content_of (file_of (get_or fs i d)) k)
      → Adds g old.now new.now n fs (i + 1)
  next_file d low writes clean office =
      let so_far = there (clean_first after.stays clean) office in
      let put = writes clean so_far.office in
      let added = put.becomes.are ∙ sym (same_Some _ _ put.is) in
      record {
        office = put.becomes.office;
        rows = ap (with_files n (files_of (drop (i + 1) fs))) added ∙ sym (at_drop_more (λ more. with_files n (files_of more) (tables_of (state g mid.now).now)) fs i d low) ∙ so_far.rows;
        contents = ap (with_contents_of (files_of (drop (i + 1) fs))) put.contents ∙ sym (at_drop_more (λ more. with_contents_of (files_of more) (contents_in (state g mid.now).now)) fs i d low) ∙ so_far.contents;
        once = λ was. put.once (so_far.once was);
      }

-- at the end, all of them are there
pub all_added : {S : Type 0} (g : Ghosts S) (old now : Held S) (n : ℤ) (fs : List (Bor (List ℕ) × Bor (List ℕ))) (i : ℕ) → length fs ≤ i → Adds g old now n fs i
    → Rewrites {T = Unit {0}} {E = TableFault} g old now (Ok tt) (λ t. Some (with_files n (files_of fs) t)) (λ t k. with_contents_of (files_of fs) k)
all_added g old now n fs i end there clean office =
    let it = there clean office in
    let rows = tables_of (state g now).now in
    record {
      rows = rows;
      is = ap Some (sym it.rows ∙ at_drop_all (λ more. with_files n (files_of more) rows) fs i end);
      becomes = record { office = it.office; are = refl };
      contents = sym (at_drop_all (λ more. with_contents_of (files_of more) (contents_in (state g now).now)) fs i end) ∙ it.contents;
      once = it.once;
    }
