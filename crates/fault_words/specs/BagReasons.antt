-- What is printed to standard error about a bag that is refused: the fault's sentence, in which a line of a manifest is described by what is in it, and what else is said of the path
-- that the fault names.
use Rattle.std.specs.Prelude.{ℕ, List, [], ◌∷◌, ◌++◌, Option, Some, None, option_and_then}
use Rattle.std.specs.Option.{option_map_or}
use Rattle.std.specs.Result.{result_ok}
use Rattle.bag_text.specs.DeclarationReading.{declaration_of}
use Rattle.bag_text.specs.Lines.{numbered_line}
use Rattle.bag_text.specs.Manifest.{path_text}
use Rattle.bag_text.specs.PathCauses.{path_cause}
use Rattle.bag_text.specs.TransferForm.{File, content_at}
use Rattle.bag_text.specs.declared.causes.PathCause.{PathCause}
use Rattle.bag_text.specs.declared.declaration.Version.{Version}
use Rattle.bag_text.specs.declared.listing.LineFault.{LineFault}
use Rattle.bag_text.specs.declared.listing.LineFault.TheVariants.{BadChecksum, BadPath}
use Rattle.bag_check.specs.Contents.{declaration_path}
use Rattle.bag_check.specs.Faults.{Fault, Breaks, ManifestText}
use Rattle.bag_check.specs.declared.rule.Rule.{Rule}
use Rattle.bag_check.specs.declared.rule.Rule.TheVariants.{Missing, Unlisted}
use Rattle.fault_words.specs.FaultWords.{bag_words, manifest_words, words_or}
use Rattle.fault_words.specs.ManifestLines.{likeness, likeness_words, words_of_bad_path}
use Rattle.fault_words.specs.PathNotes.{coding_in, coding_words, other_form, words_of_other_form}
use Rattle.fault_words.specs.declared.manifest_line.OtherLine.{OtherLine}

-- ---- what is in the bag

-- the version that it declares
abbrev pub version_in : List File → Option Version
version_in files = option_and_then (λ text. result_ok (declaration_of text)) (content_at files declaration_path)

-- the line of this number of the file of this name
abbrev pub line_in : List File → List ℕ → ℕ → Option (List ℕ)
line_in files name number = option_and_then (λ text. numbered_line text number) (content_at files name)

-- what the line looks like
abbrev pub likeness_at : List File → List ℕ → ℕ → Option OtherLine
likeness_at files name number = option_and_then likeness (line_in files name number)

-- why the line lists no good path, by the bag's version
abbrev pub cause_in : Version → Option (List ℕ) → Option PathCause
cause_in version line = option_and_then (λ text. path_cause version (path_text text)) line

abbrev pub cause_at : List File → List ℕ → ℕ → Option PathCause
cause_at files name number = option_and_then (λ version. cause_in version (line_in files name number)) (version_in files)

-- ---- the fault's sentence

abbrev pub manifest_sentence : List File → List ℕ → LineFault → List ℕ
manifest_sentence files name (BadChecksum number) = option_map_or (likeness_words name number) (likeness_at files name number) (manifest_words name (BadChecksum number))
manifest_sentence files name (BadPath number) = option_map_or (words_of_bad_path name number) (cause_at files name number) (manifest_words name (BadPath number))
manifest_sentence files name fault = manifest_words name fault

abbrev pub sentence_of : List File → Fault → List ℕ
sentence_of files (ManifestText name fault) = manifest_sentence files name fault
sentence_of files fault = bag_words fault

-- ---- what else is said of the path

-- the path that the fault names
abbrev pub named_path : Fault → Option (List ℕ)
named_path (Breaks rule name path) = Some path
named_path fault = None

-- the same, where it was looked for among the files or in a manifest, and not found
abbrev pub path_sought : Rule → List ℕ → Option (List ℕ)
path_sought Missing path = Some path
path_sought Unlisted path = Some path
path_sought rule path = None

abbrev pub sought_path : Fault → Option (List ℕ)
sought_path (Breaks rule name path) = path_sought rule path
sought_path fault = None

-- that a file's path differs from the one that was sought by its normal form alone, a line with its end, where that is so
abbrev pub form_line : List File → Option (List ℕ) → List ℕ
form_line files sought = option_map_or (λ file. words_of_other_form file ++ 10 ∷ []) (option_and_then (other_form files) sought) []

-- what means the end of a line or a percent sign in the printed path, likewise
abbrev pub coding_line : Option (List ℕ) → List ℕ
coding_line named = option_map_or (λ coding. coding_words coding ++ 10 ∷ []) (option_and_then coding_in named) []

-- ---- all that is printed

abbrev pub bag_lines : List File → Fault → List ℕ
bag_lines files fault = ((sentence_of files fault ++ 10 ∷ []) ++ form_line files (sought_path fault)) ++ coding_line (named_path fault)

-- of the fault that an answer names, or where memory ran out
abbrev pub sentence_or : List File → Option Fault → List ℕ
sentence_or files None = words_or None
sentence_or files (Some fault) = sentence_of files fault

abbrev pub told_of : List File → Option Fault → List ℕ
told_of files None = words_or None ++ 10 ∷ []
told_of files (Some fault) = bag_lines files fault
