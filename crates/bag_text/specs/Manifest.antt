-- What a manifest lists (RFC 8493, section 2.1.3), and why a text is none.
use Rattle.std.specs.Prelude.{◌≡◌, ℕ, ◌-◌, ◌<◌, ◌≤◌, Bool, true, false, not, List, [], ◌∷◌, ◌++◌, Option, Some, None, Ok, is_ok, is_some, ◌==◌, ◌&&◌, ◌||◌, ◌⊎◌, ◌≢◌, take, drop, Contains, slice_get, if◌then◌else◌}
use Rattle.std.specs.List.{list_all, position_or_len, AllByRecursion}
use Rattle.std.specs.Str.{is_utf8}
use Rattle.hex.specs.Hex.{decode_sized}
use Rattle.bag_text.specs.declared.declaration.Version.{Version}
use Rattle.bag_text.specs.declared.declaration.Version.TheVariants.{V1_0, V0_97}
use Rattle.bag_text.specs.declared.checksum.Algorithm.{Algorithm}
use Rattle.bag_text.specs.declared.checksum.Algorithm.TheVariants.{Sha256, Sha512}
use Rattle.bag_text.specs.declared.checksum.Checksum.{Checksum}
use Rattle.bag_text.specs.declared.checksum.Checksum.TheVariants as sum
use Rattle.bag_text.specs.declared.listing.LineFault.{LineFault}
use Rattle.bag_text.specs.declared.listing.LineFault.TheVariants.{NotUtf8, ByteOrderMark, BadChecksum, NoPath, BadPath, ListedTwice, Memory}
use Rattle.bag_text.specs.Text.{is_blank, AreBlanks, has_mark, begins_with, skip_blanks}
use Rattle.bag_text.specs.Lines.{lines}
use Rattle.bag_text.specs.Paths.{GoodPath, comes_before}

-- ---- spelled paths

abbrev pub percent : Version → Option ℕ
percent V1_0 = Some 37
percent V0_97 = None

-- the character that three bytes mean, where they are a coded triple: %0A, %0D, in 1.0 also %25
abbrev pub coded_character : Version → ℕ → ℕ → ℕ → Option ℕ
coded_character v a b c =
    if not (a == 37) then None
    else if b == 48 && (c == 65 || c == 97) then Some 10
    else if b == 48 && (c == 68 || c == 100) then Some 13
    else if b == 50 && c == 53 then percent v
    else None

abbrev pub leading_escape : Version → List ℕ → Option ℕ
leading_escape v (a ∷ b ∷ c ∷ s) = coded_character v a b c
leading_escape v s = None

-- whether a coded triple begins somewhere in a text, so that something is decoded
abbrev pub has_coded : Version → List ℕ → Bool
has_coded v [] = false
has_coded v (a ∷ s) = is_some (leading_escape v (a ∷ s)) || has_coded v s

-- A text spells a path: both fall into as many parts, pairwise a coded triple and its character, or a
-- character that begins no coded triple and itself.
pub data Spells (v : Version) : List ℕ → List ℕ → Type 0 where
  nothing : Spells v [] []
  triple : {a b c x : ℕ} {s p : List ℕ} → coded_character v a b c ≡ Some x → Spells v s p → Spells v (a ∷ b ∷ c ∷ s) (x ∷ p)
  itself : {a : ℕ} {s p : List ℕ} → leading_escape v (a ∷ s) ≡ None → Spells v s p → Spells v (a ∷ s) (a ∷ p)

-- the path that a text spells, read left to right, once
unfoldable pub decode : Version → List ℕ → List ℕ
decode v (a ∷ b ∷ c ∷ s) = elim (coded_character v a b c) [ Some x ↦ x ∷ decode v s | None ↦ a ∷ decode v (b ∷ c ∷ s) ]
decode v s = s

-- ---- lines

-- the bytes of a checksum
abbrev pub size_of : Algorithm → ℕ
size_of Sha256 = 32
size_of Sha512 = 64

-- the checksum that hex digits of either case spell, twice as many as its bytes
abbrev pub IsChecksum : Algorithm → List ℕ → List ℕ → Type 0
IsChecksum a digits checksum = decode_sized digits (size_of a) ≡ Ok checksum

-- A line lists a path with a checksum: hex digits, one or more blanks, and all the rest, which spells the path.
pub record IsEntry (v : Version) (a : Algorithm) (line path checksum : List ℕ) : Type 0 where
  pub digits : List ℕ
  pub blanks : List ℕ
  pub spelled : List ℕ
  pub is : line ≡ digits ++ blanks ++ spelled
  pub checked : IsChecksum a digits checksum
  pub some_blanks : blanks ≢ []
  pub all_blanks : AreBlanks blanks
  pub whole_run : skip_blanks spelled ≡ spelled
  pub no_star : begins_with 42 spelled ≡ false
  pub spells : Spells v spelled path
  pub good : GoodPath path

-- the line of this number, from 1
abbrev pub LineIs : List ℕ → ℕ → List ℕ → Type 0
LineIs text number line = (1 ≤ number) × (slice_get (lines text) (number - 1) ≡ Some line)

-- a text, and the version and the algorithm by which it is read as a manifest
pub record ManifestText : Type 0 where
  pub version : Version
  pub algorithm : Algorithm
  pub text : List ℕ

abbrev pub as_manifest : Version → Algorithm → List ℕ → ManifestText
as_manifest v a text = record { version = v; algorithm = a; text = text }

-- the line of this number lists the path with these bytes of a checksum
abbrev pub ListsOn : ManifestText → ℕ → List ℕ → List ℕ → Type 0
ListsOn m number path checksum = (line : List ℕ) × LineIs m.text number line × IsEntry m.version m.algorithm line path checksum

-- the checksum of an algorithm with these bytes
abbrev pub checksum_of : Algorithm → List ℕ → Checksum
checksum_of Sha256 bytes = sum.Sha256 bytes
checksum_of Sha512 bytes = sum.Sha512 bytes

-- the line of this number lists the path with the checksum, the algorithm and its bytes
abbrev pub LineLists : ManifestText → ℕ → List ℕ → Checksum → Type 0
LineLists m number path checksum = (bytes : List ℕ) × (checksum ≡ checksum_of m.algorithm bytes) × ListsOn m number path bytes

-- some line lists the path with the checksum
abbrev pub Lists : Version → Algorithm → List ℕ → List ℕ → List ℕ → Type 0
Lists v a text path checksum = (line : List ℕ) × Contains (lines text) line × IsEntry v a line path checksum

-- the lines before this one are blanks or list a path, each another
pub record IsSoundBefore (v : Version) (a : Algorithm) (text : List ℕ) (end : ℕ) : Type 0 where
  pub each : (number : ℕ) (line : List ℕ) → number < end → LineIs text number line → AreBlanks line ⊎ ((path : List ℕ) × (checksum : List ℕ) × IsEntry v a line path checksum)
  pub once : (first second : ℕ) (path one two : List ℕ) → first < second → second < end → ListsOn (as_manifest v a text) first path one → ListsOn (as_manifest v a text) second path two → ⊥

-- paths that ascend: each comes before all that follow it
abbrev pub AscendingPaths : List (List ℕ) → Type 0
AscendingPaths [] = Unit {0}
AscendingPaths (path ∷ paths) = AllByRecursion (λ later. comes_before path later ≡ true) paths × AscendingPaths paths

-- A manifest's text: UTF-8 without a byte order mark, whose lines are blanks or list a path, each another.
pub record IsManifest (v : Version) (a : Algorithm) (text : List ℕ) : Type 0 where
  pub utf8 : is_utf8 text ≡ true
  pub unmarked : has_mark text ≡ false
  pub each : (number : ℕ) (line : List ℕ) → LineIs text number line → AreBlanks line ⊎ ((path : List ℕ) × (checksum : List ℕ) × IsEntry v a line path checksum)
  pub once : (first second : ℕ) (path one two : List ℕ) → first < second → ListsOn (as_manifest v a text) first path one → ListsOn (as_manifest v a text) second path two → ⊥

-- ---- the faults

-- what comes before the first blank, and after the blanks
abbrev pub sum_text : List ℕ → List ℕ
sum_text line = take (position_or_len is_blank line) line

abbrev pub path_text : List ℕ → List ℕ
path_text line = skip_blanks (drop (position_or_len is_blank line) line)

abbrev pub has_checksum : Algorithm → List ℕ → Bool
has_checksum a line = is_ok (decode_sized (sum_text line) (size_of a))

-- the spelled path begins with `*`, or the path that it spells isn't good
abbrev pub IsNoGoodPath : Version → List ℕ → Type 0
IsNoGoodPath v spelled = (begins_with 42 spelled ≡ true) ⊎ ((path : List ℕ) × Spells v spelled path × (GoodPath path → ⊥))

-- a line that is reached: the text is UTF-8 without a byte order mark, and no line before is at fault
pub record IsReached (v : Version) (a : Algorithm) (text : List ℕ) (number : ℕ) (line : List ℕ) : Type 0 where
  pub utf8 : is_utf8 text ≡ true
  pub unmarked : has_mark text ≡ false
  pub before : IsSoundBefore v a text number
  pub is : LineIs text number line
  pub full : list_all is_blank line ≡ false

-- The first fault of a text that is no manifest.
abbrev pub ManifestFault : Version → Algorithm → List ℕ → LineFault → Type 0
ManifestFault v a text NotUtf8 = is_utf8 text ≡ false
ManifestFault v a text ByteOrderMark = (is_utf8 text ≡ true) × (has_mark text ≡ true)
ManifestFault v a text (BadChecksum number) = (line : List ℕ) × IsReached v a text number line × (has_checksum a line ≡ false)
ManifestFault v a text (NoPath number) = (line : List ℕ) × IsReached v a text number line × (has_checksum a line ≡ true) × (path_text line ≡ [])
ManifestFault v a text (BadPath number) =
    (line : List ℕ) × IsReached v a text number line × (has_checksum a line ≡ true) × (path_text line ≢ []) × IsNoGoodPath v (path_text line)
ManifestFault v a text (ListedTwice number) =
    (line : List ℕ) × IsReached v a text number line
    × ((first : ℕ) × (path : List ℕ) × (one : List ℕ) × (two : List ℕ) × (first < number) × ListsOn (as_manifest v a text) first path one × IsEntry v a line path two)
ManifestFault v a text Memory = ⊥
