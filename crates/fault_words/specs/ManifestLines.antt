-- What is said of a line of a manifest by what it looks like, and by why its path isn't good.
use Rattle.std.specs.Prelude.{ℕ, List, ◌++◌, Option, Some, None, codes, decimal, ◌||◌, if◌then◌else◌}
use Rattle.bag_text.specs.Paths.{max_path}
use Rattle.bag_text.specs.declared.causes.PathCause.{PathCause}
use Rattle.bag_text.specs.declared.causes.PathCause.TheVariants as causes
use Rattle.bag_check.specs.FaultTexts.{printed_text}
use Rattle.fault_words.specs.Numbers.{grouped}
use Rattle.fault_words.specs.OtherFiles.{begins}
use Rattle.fault_words.specs.declared.manifest_line.OtherLine.{OtherLine}
use Rattle.fault_words.specs.declared.manifest_line.OtherLine.TheVariants.{Escaped, Tagged}

-- ---- a line that begins with no checksum

-- what it looks like, by its beginning
abbrev pub likeness : List ℕ → Option OtherLine
likeness line =
    if begins line (codes "\\") then Some Escaped
    else if begins line (codes "SHA256 (") || begins line (codes "SHA512 (") then Some Tagged
    else None

abbrev pub likeness_words : List ℕ → ℕ → OtherLine → List ℕ
likeness_words name line Escaped =
    codes "line " ++ decimal line ++ codes " of " ++ printed_text name
    ++ codes " begins with a backslash, by which sha256sum marks an escaped name; a manifest has no such mark: it has a backslash once, LF as %0A, CR as %0D, and in version 1.0 % as %25 (B6 L3)"
likeness_words name line Tagged =
    codes "line " ++ decimal line ++ codes " of " ++ printed_text name
    ++ codes " is as sha256sum or sha512sum writes it with --tag; a manifest has the checksum first, then blanks and the path (B6 L3)"

-- ---- a line that lists no good path

abbrev pub cause_words : PathCause → List ℕ
cause_words causes.Starred = codes "it begins with *, by which checksum tools mark a binary file"
cause_words causes.NotUtf8 = codes "it is not UTF-8"
cause_words causes.TooLong = codes "it has more than " ++ grouped max_path ++ codes " bytes"
cause_words causes.EmptySegment = codes "it has an empty segment, as where / begins or ends it, or is there twice"
cause_words causes.DotSegment = codes "it has the segment ., as in ./data"
cause_words causes.DotDotSegment = codes "it has the segment .."
cause_words causes.Nul = codes "it has a NUL"

abbrev pub words_of_bad_path : List ℕ → ℕ → PathCause → List ℕ
words_of_bad_path name line cause =
    codes "line " ++ decimal line ++ codes " of " ++ printed_text name ++ codes " has no good path: " ++ cause_words cause ++ codes " (B6 L5)"
