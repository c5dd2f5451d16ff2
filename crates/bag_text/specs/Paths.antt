-- Paths inside a bag (RFC 8493, sections 2.1.3 and 5.1, narrowed by this profile).
use Rattle.std.specs.Prelude.{◌≡◌, ℕ, ◌≤◌, Bool, true, List, [], ◌∷◌, ◌++◌, length, Option, is_none, nat_lt, ◌==◌, ◌&&◌, ◌||◌, ◌≢◌, bytes_eq, codes, find, Contains}
use Rattle.std.specs.List.{slice_split, list_any, starts_with}
use Rattle.std.specs.Prelude.{nat_eq}
use Rattle.std.specs.Str.{is_utf8}
use Rattle.std.specs.Ordering.{nat_cmp, is_lt}
use Rattle.std.specs.Cmp.Lexicographic.{slice_cmp}
use Rattle.bag_text.specs.declared.path.PathFault.{PathFault}
use Rattle.bag_text.specs.declared.path.PathFault.TheVariants.{Empty, TooLong, EmptySegment, DotSegment, Nul}

abbrev pub max_path : ℕ
max_path = 1024

-- what is between the slashes
abbrev pub segments : List ℕ → List (List ℕ)
segments path = slice_split (λ b. b == 47) path

abbrev pub is_dots_of : List ℕ → Bool
is_dots_of segment = bytes_eq segment (codes ".") || bytes_eq segment (codes "..")

-- A good path: UTF-8, 1 to 1,024 bytes, no segment empty, `.` or `..`, and no NUL.
pub record GoodPath (path : List ℕ) : Type 0 where
  pub utf8 : is_utf8 path ≡ true
  pub some : path ≢ []
  pub short : length path ≤ max_path
  pub full : (segment : List ℕ) → Contains (segments path) segment → segment ≢ []
  pub no_dots : (segment : List ℕ) → Contains (segments path) segment → (segment ≢ codes ".") × (segment ≢ codes "..")
  pub no_nul : Contains path 0 → ⊥

-- whether a row of the faults applies
abbrev pub path_has : List ℕ → PathFault → Bool
path_has path Empty = length path == 0
path_has path TooLong = nat_lt max_path (length path)
path_has path EmptySegment = list_any (λ s. length s == 0) (segments path)
path_has path DotSegment = list_any is_dots_of (segments path)
path_has path Nul = list_any (λ b. b == 0) path

-- the first row that applies
abbrev pub path_fault : List ℕ → Option PathFault
path_fault path = find (path_has path) (Empty ∷ TooLong ∷ EmptySegment ∷ DotSegment ∷ Nul ∷ [])

-- the same as a good path, by computing
abbrev pub is_good : List ℕ → Bool
is_good path = is_utf8 path && is_none (path_fault path)

-- by bytes
abbrev pub comes_before : List ℕ → List ℕ → Bool
comes_before a b = is_lt (slice_cmp nat_cmp a b)

-- a file in a folder: the path followed by `/` begins the other
abbrev pub lies_under : List ℕ → List ℕ → Bool
lies_under outer inner = starts_with nat_eq inner (outer ++ 47 ∷ [])
