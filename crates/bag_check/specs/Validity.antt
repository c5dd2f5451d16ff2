-- Which bags are complete, and which are valid (RFC 8493, section 3).
use Rattle.std.specs.Prelude.{◌≡◌, ℕ, ◌+◌, ◌-◌, ◌*◌, ◌≤◌, Bool, true, List, [], ◌∷◌, ◌++◌, length, map, sum, filter, codes, bytes_eq, Contains}
use Rattle.std.specs.List.{list_all}
use Rattle.std.specs.Char.{is_ascii_digit, to_ascii_lowercase}
use Rattle.bag_text.specs.TransferForm.{File}
use Rattle.bag_text.specs.Text.{AreBlanks}
use Rattle.bag_text.specs.declared.declaration.Version.{Version}
use Rattle.bag_text.specs.declared.checksum.Algorithm.{Algorithm}
use Rattle.bag_text.specs.Manifest.{IsManifest, Lists}
use Rattle.bag_text.specs.BagInfo.{Pair, SaysInfo}
use Rattle.bag_check.specs.declared.names.Kind.{Kind}
use Rattle.bag_check.specs.declared.names.Kind.TheVariants.{Payload, Tag}
use Rattle.bag_check.specs.Contents.{Holds, HasFile, IsPayload, payload_of, info_path, fetch_path, DeclaresVersion, IsManifestName, word_of, HasManifest, ListsAt, digest, is_manifest_path}

-- ---- Payload-Oxum: the bytes of all payload files, `.`, and how many there are

-- the number that decimal digits spell
abbrev pub number_from : ℕ → List ℕ → ℕ
number_from n [] = n
number_from n (b ∷ t) = number_from (n * 10 + (b - 48)) t

pub record IsNumber (digits : List ℕ) (n : ℕ) : Type 0 where
  pub some : 1 ≤ length digits
  pub few : length digits ≤ 20
  pub all : list_all is_ascii_digit digits ≡ true
  pub is : number_from 0 digits ≡ n

abbrev pub NamesCounts : List ℕ → ℕ → ℕ → Type 0
NamesCounts value bytes files =
    (first : List ℕ) × (second : List ℕ) × (after : List ℕ)
    × (value ≡ first ++ 46 ∷ second ++ after) × AreBlanks after × IsNumber first bytes × IsNumber second files

abbrev pub is_oxum : Pair → Bool
is_oxum pair = bytes_eq (map to_ascii_lowercase pair.label) (codes "payload-oxum")

-- the values of the label `Payload-Oxum`, in any ASCII case
abbrev pub oxums_of : List Pair → List (List ℕ)
oxums_of pairs = map (λ pair. pair.value) (filter is_oxum pairs)

-- ---- what is counted

abbrev pub payload_files : List File → ℕ
payload_files bag = length (payload_of bag)

abbrev pub payload_bytes : List File → ℕ
payload_bytes bag = sum (map (λ f. length f.content) (payload_of bag))

abbrev pub manifest_count : List File → ℕ
manifest_count bag = length (filter (λ f. is_manifest_path f.path) bag)

pub record Report : Type 0 where
  pub version : Version
  pub files : ℕ
  pub bytes : ℕ
  pub manifests : ℕ

abbrev pub report_of : Version → List File → Report
report_of v bag = record { version = v; files = payload_files bag; bytes = payload_bytes bag; manifests = manifest_count bag }

-- ---- complete, and valid

-- at most one `Payload-Oxum`, which names the payload's counts
abbrev pub InfoIsRight : List File → List ℕ → Type 0
InfoIsRight bag text =
    (pairs : List Pair) × SaysInfo text pairs × (length (oxums_of pairs) ≤ 1)
    × ((value : List ℕ) → Contains (oxums_of pairs) value → NamesCounts value (payload_bytes bag) (payload_files bag))

-- A complete bag of a version: it is declared, without `fetch.txt`, with manifests of known algorithms that
-- list just what is there, and with a right `Payload-Oxum` where it has one.
pub record Complete (bag : List File) (v : Version) : Type 0 where
  pub declares : DeclaresVersion bag v
  pub no_fetch : HasFile bag fetch_path → ⊥
  pub algorithms : (kind : Kind) (alg name : List ℕ) → IsManifestName kind alg name → HasFile bag name → (a : Algorithm) × (alg ≡ word_of a)
  pub some_manifest : (a : Algorithm) × (name : List ℕ) × (text : List ℕ) × HasManifest bag Payload a name text
  pub well_formed : (kind : Kind) (a : Algorithm) (name text : List ℕ) → HasManifest bag kind a name text → IsManifest v a text
  -- a payload manifest lists payload files of the bag, and all of them
  pub lists_payload : (name path : List ℕ) → ListsAt bag v Payload name path → IsPayload path × HasFile bag path
  pub lists_all : (a : Algorithm) (name text path : List ℕ) → HasManifest bag Payload a name text → IsPayload path → HasFile bag path → ListsAt bag v Payload name path
  -- a tag manifest lists files of the bag, neither payload nor tag manifests, and every payload manifest
  pub tags_are_there : (name path : List ℕ) → ListsAt bag v Tag name path → HasFile bag path
  pub no_payload : (name path : List ℕ) → ListsAt bag v Tag name path → IsPayload path → ⊥
  pub no_tag_manifest : (name path alg : List ℕ) → ListsAt bag v Tag name path → IsManifestName Tag alg path → ⊥
  pub lists_manifests : (a : Algorithm) (name text alg path : List ℕ) → HasManifest bag Tag a name text → IsManifestName Payload alg path → HasFile bag path → ListsAt bag v Tag name path
  pub info : (text : List ℕ) → Holds bag info_path text → InfoIsRight bag text

-- A valid bag: complete, and each checksum is the digest of its file.
pub record Valid (bag : List File) (v : Version) : Type 0 where
  pub complete : Complete bag v
  pub fixity : (kind : Kind) (a : Algorithm) (name text path checksum content : List ℕ) → HasManifest bag kind a name text → Lists v a text path checksum → Holds bag path content → digest a content ≡ checksum
