-- What is in a bag: payload, manifests, declaration (RFC 8493, sections 2.1 and 2.2).
use Rattle.std.specs.Prelude.{◌≡◌, ℕ, ◌+◌, ◌-◌, Bool, true, false, not, List, [], ◌++◌, length, filter, Option, Some, None, ◌==◌, ◌&&◌, ◌≢◌, codes, nat_eq, nat_lt, take, drop, is_some, bytes_eq, Contains, if◌then◌else◌}
use Rattle.std.specs.List.{list_any, starts_with, ends_with}
use Rattle.sha2.specs.Sha256.{sha256}
use Rattle.sha2.specs.Sha512.{sha512}
use Rattle.bag_text.specs.TransferForm.{File}
use Rattle.bag_text.specs.declared.declaration.Version.{Version}
use Rattle.bag_text.specs.declared.checksum.Algorithm.{Algorithm}
use Rattle.bag_text.specs.declared.checksum.Algorithm.TheVariants.{Sha256, Sha512}
use Rattle.bag_text.specs.Declaration.{Declares}
use Rattle.bag_text.specs.Manifest.{Lists}
use Rattle.bag_check.specs.declared.names.Kind.{Kind}
use Rattle.bag_check.specs.declared.names.Kind.TheVariants.{Payload, Tag}

-- ---- files

abbrev pub Holds : List File → List ℕ → List ℕ → Type 0
Holds bag path content = Contains bag (record { path = path; content = content })

abbrev pub HasFile : List File → List ℕ → Type 0
HasFile bag path = (content : List ℕ) × Holds bag path content

-- it has no `/`
abbrev pub IsTop : List ℕ → Type 0
IsTop path = list_any (λ b. b == 47) path ≡ false

-- the payload: the files under `data/`
abbrev pub IsPayload : List ℕ → Type 0
IsPayload path = (rest : List ℕ) × (path ≡ codes "data/" ++ rest)

abbrev pub is_payload : List ℕ → Bool
is_payload path = starts_with nat_eq path (codes "data/")

abbrev pub payload_of : List File → List File
payload_of bag = filter (λ f. is_payload f.path) bag

-- ---- the declaration

abbrev pub declaration_path : List ℕ
declaration_path = codes "bagit.txt"

abbrev pub info_path : List ℕ
info_path = codes "bag-info.txt"

abbrev pub fetch_path : List ℕ
fetch_path = codes "fetch.txt"

abbrev pub DeclaresVersion : List File → Version → Type 0
DeclaresVersion bag v = (text : List ℕ) × Holds bag declaration_path text × Declares text v

-- ---- manifests

abbrev pub stem : Kind → List ℕ
stem Payload = codes "manifest-"
stem Tag = codes "tagmanifest-"

-- the name of a manifest: a top path `manifest-ALG.txt` or `tagmanifest-ALG.txt`, ALG not empty
pub record IsManifestName (kind : Kind) (alg name : List ℕ) : Type 0 where
  pub is : name ≡ stem kind ++ alg ++ codes ".txt"
  pub some : alg ≢ []
  pub top : IsTop name

-- the same by computing: the kind and ALG of a manifest's name
abbrev pub alg_after : List ℕ → List ℕ → Option (List ℕ)
alg_after stem name =
    let alg = drop (length stem) (take (length name - 4) name) in
    if starts_with nat_eq name stem && ends_with nat_eq name (codes ".txt") && nat_lt (length stem + 4) (length name) && not (list_any (λ b. b == 47) name)
    then Some alg else None

abbrev pub or_tag : Option (List ℕ) → Option (List ℕ) → Option (Kind × List ℕ)
or_tag (Some alg) tag = Some (Payload, alg)
or_tag None (Some alg) = Some (Tag, alg)
or_tag None None = None

abbrev pub manifest_name : List ℕ → Option (Kind × List ℕ)
manifest_name name = or_tag (alg_after (stem Payload) name) (alg_after (stem Tag) name)

abbrev pub is_manifest_path : List ℕ → Bool
is_manifest_path name = is_some (manifest_name name)

-- whether the second kind is the first
abbrev pub is_kind : Kind → Kind → Bool
is_kind Payload Payload = true
is_kind Payload Tag = false
is_kind Tag Payload = false
is_kind Tag Tag = true

abbrev pub is_found_of : Kind → Option (Kind × List ℕ) → Bool
is_found_of kind None = false
is_found_of kind (Some found) = is_kind kind found.0

-- whether a path is the name of a manifest of this kind
abbrev pub is_manifest_of : Kind → List ℕ → Bool
is_manifest_of kind path = is_found_of kind (manifest_name path)

abbrev pub word_of : Algorithm → List ℕ
word_of Sha256 = codes "sha256"
word_of Sha512 = codes "sha512"

abbrev pub algorithm_named : List ℕ → Option Algorithm
algorithm_named alg =
    if bytes_eq alg (word_of Sha256) then Some Sha256
    else if bytes_eq alg (word_of Sha512) then Some Sha512
    else None

-- a file of the bag that is a manifest of this kind and algorithm, with its text
abbrev pub HasManifest : List File → Kind → Algorithm → List ℕ → List ℕ → Type 0
HasManifest bag kind a name text = IsManifestName kind (word_of a) name × Holds bag name text

-- the manifest of this kind and name lists the path
abbrev pub ListsAt : List File → Version → Kind → List ℕ → List ℕ → Type 0
ListsAt bag v kind name path =
    (a : Algorithm) × (text : List ℕ) × (checksum : List ℕ) × HasManifest bag kind a name text × Lists v a text path checksum

-- the digest by FIPS 180-4
abbrev pub digest : Algorithm → List ℕ → List ℕ
digest Sha256 bytes = sha256 bytes
digest Sha512 bytes = sha512 bytes
