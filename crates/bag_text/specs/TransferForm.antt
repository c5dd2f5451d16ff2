-- The transfer form of a bag: one text for each list of files that is a bag.
use Rattle.std.specs.Prelude.{◌≡◌, ℕ, ◌≤◌, Bool, true, false, List, [], ◌∷◌, ◌++◌, length, ◌||◌, ◌⊎◌, bytes_eq, codes, decimal, Contains, Option, option_map, find}
use Rattle.std.specs.List.{list_any, flat_map, AllByRecursion}
use Rattle.bag_text.specs.Paths.{is_good, comes_before, lies_under}

pub record File : Type 0 where
  pub path : List ℕ
  pub content : List ℕ

abbrev pub opening : List ℕ
opening = codes "BAGSET 1" ++ 10 ∷ []

abbrev pub ending : List ℕ
ending = codes "END" ++ 10 ∷ []

abbrev pub header : ℕ → ℕ → List ℕ
header p c = codes "FILE " ++ decimal p ++ 32 ∷ [] ++ decimal c ++ 10 ∷ []

-- the sizes that a header gives, and what follows it
pub record Head : Type 0 where
  pub path_len : ℕ
  pub content_len : ℕ
  pub rest : List ℕ

abbrev pub entry : File → List ℕ
entry f = header (length f.path) (length f.content) ++ f.path ++ f.content ++ 10 ∷ []

abbrev pub set_text : List File → List ℕ
set_text files = opening ++ flat_map entry files ++ ending

-- ---- which lists are bags

abbrev pub max_content : ℕ
max_content = 16777216

abbrev pub max_files : ℕ
max_files = 2000

-- a form that is written, or read from a file, has at most this number of bytes
abbrev pub max_form : ℕ
max_form = 16777216

-- each path greater than the one before it
abbrev pub Ascends : List ℕ → List File → Type 0
Ascends before [] = Unit {0}
Ascends before (f ∷ fs) = (comes_before before f.path ≡ true) × Ascends f.path fs

-- a path is `data`, or begins another as a folder does
abbrev pub Clashes : List File → Type 0
Clashes files =
    (f : File) × Contains files f
    × ((f.path ≡ codes "data") ⊎ ((g : File) × (rest : List ℕ) × Contains files g × (g.path ≡ f.path ++ 47 ∷ rest)))

-- the same by computing
abbrev pub clashes : List File → Bool
clashes files = list_any (λ f. bytes_eq f.path (codes "data") || list_any (λ g. lies_under f.path g.path) files) files

-- the content of the file that has this path
abbrev pub content_at : List File → List ℕ → Option (List ℕ)
content_at files path = option_map (λ f. f.content) (find (λ f. bytes_eq f.path path) files)

pub record Fits (f : File) : Type 0 where
  pub good : is_good f.path ≡ true
  pub small : length f.content ≤ max_content

-- The lists of files that have a transfer form.
pub record IsBag (files : List File) : Type 0 where
  pub few : length files ≤ max_files
  pub each : AllByRecursion Fits files
  pub ascending : Ascends [] files
  pub apart : clashes files ≡ false

-- The text is the form of these files, which are a bag, and isn't too long.
pub record IsFormOf (files : List File) (text : List ℕ) : Type 0 where
  pub bag : IsBag files
  pub form : text ≡ set_text files
  pub short : length text ≤ max_form
