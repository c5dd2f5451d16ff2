-- What is told of a folder that is refused.
use Rattle.bag_folders.proofs.Common.{◌≡◌, inl, inr, ℕ, List, [], ◌∷◌, length, replicate, map, refl, ◌∙◌, ap, sym, ◌||◌, Bool, bytes_eq, None, Result, Ok, Err, IfErr, IfOk, string_bytes, declaration_path, File, IsFormOf, Failed, Entry, Listed, PackFault, AreFilesOf, AllFilesOf, AreInPathOrder, HasNoForm, HasNoFormOf, IsFoundUnder, IsPacked, IsPackedOf, IsUnpackable, IsRefusedOf, IsRefusedUnder, MayBeRefused, pack_failed, is_any_declared, is_declared, paths_found}
use Rattle.std.proofs.Math.ListN.{length-replicate}
use Rattle.bag_folders.specs.declared.failed.Failed.TheVariants as failures
use Rattle.bag_folders.specs.declared.listed.Found.{Found}
use Rattle.bag_folders.specs.declared.packing.Packed.{Packed}
use Rattle.bag_folders.specs.declared.pack_fault.PackFault.TheVariants.{Name, Set, Size, Device, Memory}
use Rattle.bag_folders.proofs.LoadLemmas.{same_count}

-- ---- files that could be the ones that are listed

filled : Listed → File
filled l = record { path = string_bytes l.path; content = replicate l.size 0 }

some_files : (ls : List Listed) → AreFilesOf ls (map filled ls)
unfolding filled
some_files [] = tt
some_files (l ∷ ls) = (refl, length-replicate l.size 0, some_files ls)

-- ---- what is refused

pub plan_refused : (found : Found) (listed : List Listed) (fault : PackFault) → found.odd ≡ None → AreInPathOrder found.files.items listed → AllFilesOf listed (λ files. HasNoForm files fault) → IsUnpackable found fault
plan_refused found listed (Name entry) odd order none = absurd (none (map filled listed) (some_files listed))
plan_refused found listed (Set fault path) odd order none = (odd, (listed, order, none))
plan_refused found listed Size odd order none = (odd, (listed, order, none))
plan_refused found listed (Device trouble) odd order none = none (map filled listed) (some_files listed)
plan_refused found listed Memory odd order none = tt

pub failed_under : (lists : List ℕ → List Entry → Type 0) (failed : Failed) → IsRefusedUnder lists (pack_failed failed)
failed_under lists (failures.Device trouble) = tt
failed_under lists failures.Memory = tt

refused_under : (lists : List ℕ → List Entry → Type 0) (found : Found) (fault : PackFault) → IsFoundUnder lists found → IsRefusedOf found fault → IsRefusedUnder lists fault
refused_under lists found (Device trouble) under h = tt
refused_under lists found Memory under h = tt
refused_under lists found fault under h = (found, under, h)

pub plan_under : (lists : List ℕ → List Entry → Type 0) (found : Found) (fault : PackFault) → IsFoundUnder lists found → IsUnpackable found fault → IsRefusedUnder lists fault
plan_under lists found fault under h = refused_under lists found fault under (inl h)

pub form_under : (lists : List ℕ → List Entry → Type 0) (found : Found) (listed : List Listed) (fault : PackFault) → IsFoundUnder lists found → (found.odd ≡ None) × AreInPathOrder found.files.items listed → HasNoFormOf listed fault
    → IsRefusedUnder lists fault
form_under lists found listed fault under order h = refused_under lists found fault under (inr (listed, order.0, order.1, h))

-- ---- what is packed

same_declared : (ls : List Listed) (fs : List File) → AreFilesOf ls fs → is_any_declared ls ≡ is_declared (paths_found fs)
same_declared [] [] are = refl
same_declared [] (f ∷ fs) are = absurd are
same_declared (l ∷ ls) [] are = absurd are
same_declared (l ∷ ls) (f ∷ fs) are =
    ap (λ (path : List ℕ). bytes_eq path declaration_path || is_any_declared ls) (sym are.0) ∙ ap (λ (rest : Bool). bytes_eq f.path declaration_path || rest) (same_declared ls fs are.2)

pub is_packed_of : (found : Found) (packed : Packed) (listed : List Listed) (text : List ℕ) → (found.odd ≡ None) × AreInPathOrder found.files.items listed → packed.files ≡ length listed → packed.bytes ≡ length text
    → packed.is_declared ≡ is_any_declared listed → (files : List File) × AreFilesOf listed files × IsFormOf files text → IsPackedOf found packed
is_packed_of found packed listed text order count bytes declared h = record {
  listed = listed;
  files = h.0;
  text = text;
  odd = order.0;
  order = order.1;
  are = h.1;
  form = h.2;
  count = count ∙ same_count listed h.0 h.1;
  bytes = bytes;
  declared = declared ∙ same_declared listed h.0 h.1;
}

-- ---- whatever is found

pub some_packed : (lists : List ℕ → List Entry → Type 0) (result : Result Packed PackFault) → IfOk result (λ packed. (found : Found) × IsFoundUnder lists found × IsPackedOf found packed) → IfOk result IsPacked
some_packed lists (Ok packed) h = let it = h.2 in (it.files, it.text, it.form, it.count, it.bytes, it.declared)
some_packed lists (Err fault) h = tt

of_refused : (found : Found) (fault : PackFault) → IsRefusedOf found fault → MayBeRefused fault
of_refused found (Device trouble) (inl h) = tt
of_refused found (Device trouble) (inr h) = tt
of_refused found Memory (inr h) = inr ([], tt)
of_refused found fault (inl h) = inl (found, h)
of_refused found fault (inr h) = let it = h.3 in inr (it.0, it.2)

under_refused : (lists : List ℕ → List Entry → Type 0) (fault : PackFault) → IsRefusedUnder lists fault → MayBeRefused fault
under_refused lists (Device trouble) h = tt
under_refused lists Memory h = inr ([], tt)
under_refused lists fault h = of_refused h.0 fault h.2

pub some_refused : (lists : List ℕ → List Entry → Type 0) (result : Result Packed PackFault) → IfErr result (IsRefusedUnder lists) → IfErr result MayBeRefused
some_refused lists (Ok packed) h = tt
some_refused lists (Err fault) h = under_refused lists fault h
