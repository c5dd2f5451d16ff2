-- Where a line of a bag's manifest lists no good path, its cause is found from the bag.
use Rattle.fault_words.proofs.Common.{◌≡◌, ◌∙◌, ℕ, Bool, true, false, cond, List, [], arith, refl, sym, ap, subst, ◌==◌, Option, Some, None, IsSome, find, option_and_then, false≢true, nat_tests}
use Rattle.std.specs.Option.{option_map_or}
use Rattle.std.specs.Result.{result_ok}
use Rattle.bag_text.specs.Text.{begins_with}
use Rattle.bag_text.specs.Lines.{numbered_line}
use Rattle.bag_text.specs.Manifest.{IsNoGoodPath, LineIs, decode, path_text}
use Rattle.bag_text.specs.PathCauses.{own_causes, path_cause, stands_for}
use Rattle.bag_text.specs.DeclarationReading.{declaration_of}
use Rattle.bag_text.specs.TransferForm.{File, IsBag}
use Rattle.bag_text.specs.declared.causes.PathCause.{PathCause}
use Rattle.bag_text.specs.declared.causes.PathCause.TheVariants.{Starred}
use Rattle.bag_text.specs.declared.declaration.Version.{Version}
use Rattle.bag_text.specs.declared.listing.LineFault.TheVariants.{BadPath}
use Rattle.bag_text.proofs.DeclarationLemmas.{declares}
use Rattle.bag_text.proofs.OrderLemmas.{content_found}
use Rattle.bag_text.proofs.PathCauseLemmas.{found_where_bad}
use Rattle.bag_check.specs.Contents.{DeclaresVersion, Holds, declaration_path}
use Rattle.bag_check.specs.Faults.{ManifestText, Applies}
use Rattle.fault_words.specs.BagReasons.{cause_at, cause_in, line_in, sentence_of, version_in}
use Rattle.fault_words.specs.FaultWords.{manifest_words}
use Rattle.fault_words.specs.ManifestLines.{words_of_bad_path}

-- a spelled path that isn't good has a cause
cause_found : (v : Version) (spelled : List ℕ) → IsNoGoodPath v spelled → IsSome (path_cause v spelled)
cause_found v spelled bad = by_star (begins_with 42 spelled) refl
  where
    by_star : (star : Bool) → begins_with 42 spelled ≡ star → IsSome (cond star (Some Starred) (find (stands_for spelled (decode v spelled)) own_causes))
    by_star true is = refl
    by_star false is = (found_where_bad v spelled (decode v spelled) (find (stands_for spelled (decode v spelled)) own_causes) is refl refl).1 bad

numbered : (text : List ℕ) (number : ℕ) (line : List ℕ) → LineIs text number line → numbered_line text number ≡ Some line
numbered text number line (counted, is) = let other : (number == 0) ≡ false = grind (arith, nat_tests, counted) in rw other is

-- the version and the line are found by the paths of their files
version_found : (files : List File) (v : Version) → IsBag files → DeclaresVersion files v → version_in files ≡ Some v
version_found files v bag (text, held, says) =
    ap (option_and_then (λ content. result_ok (declaration_of content))) (content_found [] files declaration_path text bag.ascending held) ∙ ap result_ok ((declares text v).1 says)

line_found : (files : List File) (name text : List ℕ) (number : ℕ) (line : List ℕ) → IsBag files → Holds files name text → LineIs text number line → line_in files name number ≡ Some line
line_found files name text number line bag held is =
    ap (option_and_then (λ content. numbered_line content number)) (content_found [] files name text bag.ascending held) ∙ numbered text number line is

pub cause_is_known : (files : List File) (name : List ℕ) (line : ℕ) → IsBag files → Applies files (ManifestText name (BadPath line)) → IsSome (cause_at files name line)
cause_is_known files name line bag (v, declared, (kind, a, text, (named, held), (listed, reached, checked, some, bad))) =
    let found : cause_at files name line ≡ path_cause v (path_text listed) =
    ap (option_and_then (λ version. cause_in version (line_in files name line))) (version_found files v bag declared)
    ∙ ap (cause_in v) (line_found files name text line listed bag held reached.is)
    in
    subst (λ (cause : Option PathCause). IsSome cause) (sym found) (cause_found v (path_text listed) bad)

cause_told : (name : List ℕ) (line : ℕ) (known : Option PathCause) → IsSome known
    → (cause : PathCause) × (option_map_or (words_of_bad_path name line) known (manifest_words name (BadPath line)) ≡ words_of_bad_path name line cause)
cause_told name line (Some cause) some = (cause, refl)
cause_told name line None some = absurd (false≢true some)

pub cause_is_told : (files : List File) (name : List ℕ) (line : ℕ) → IsBag files → Applies files (ManifestText name (BadPath line))
    → (cause : PathCause) × (sentence_of files (ManifestText name (BadPath line)) ≡ words_of_bad_path name line cause)
cause_is_told files name line bag stands = cause_told name line (cause_at files name line) (cause_is_known files name line bag stands)
