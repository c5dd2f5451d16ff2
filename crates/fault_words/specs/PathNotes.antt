-- What else is said of a path that is easily mistaken for another: one that looks the same, and one that is printed alike.
use Rattle.std.specs.Prelude.{ℕ, Bool, not, List, ◌++◌, ◌&&◌, ◌==◌, Option, Some, None, bytes_eq, chars, codes, find, map, if◌then◌else◌}
use Rattle.std.specs.List.{list_any}
use Rattle.unicode_normalization.specs.Forms.{nfc}
use Rattle.bag_text.specs.Lines.{is_end}
use Rattle.bag_text.specs.TransferForm.{File}
use Rattle.bag_check.specs.FaultTexts.{printed_text}
use Rattle.fault_words.specs.declared.path_note.Coding.{Coding}
use Rattle.fault_words.specs.declared.path_note.Coding.TheVariants.{Both, LineEnd, Percent}

-- ---- another normal form

-- the two are other bytes, and one text once both are in NFC
abbrev pub differs_by_form : List ℕ → List ℕ → Bool
differs_by_form path other = not (bytes_eq path other) && bytes_eq (nfc (chars path)) (nfc (chars other))

-- the first path of a bag that differs from this one so
abbrev pub other_form : List File → List ℕ → Option (List ℕ)
other_form files path = find (differs_by_form path) (map (λ f. f.path) files)

abbrev pub words_of_other_form : List ℕ → List ℕ
words_of_other_form file = codes "the bag has " ++ printed_text file ++ codes ", which differs by Unicode normal form alone, as NFC and NFD do; paths are compared byte for byte"

-- ---- the end of a line and the percent sign, which are printed otherwise

abbrev pub has_percent : List ℕ → Bool
has_percent path = list_any (λ b. b == 37) path

-- which of them a path has
abbrev pub coding_in : List ℕ → Option Coding
coding_in path =
    if list_any is_end path && has_percent path then Some Both
    else if list_any is_end path then Some LineEnd
    else if has_percent path then Some Percent
    else None

-- what means them in its printed form
abbrev pub meaning_words : Coding → List ℕ
meaning_words LineEnd = codes "%0A or %0D is the end of a line"
meaning_words Percent = codes "%25 is a percent sign"
meaning_words Both = codes "%0A or %0D is the end of a line, and %25 a percent sign"

-- the same, and how a name is listed that has what is printed
abbrev pub coding_words : Coding → List ℕ
coding_words coding =
    codes "in this path " ++ meaning_words coding
    ++ codes "; version 1.0 lists %0A, %0D and %25 of a name as %250A, %250D and %2525, and version 0.97 cannot list %0A or %0D"
