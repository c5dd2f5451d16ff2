-- Why a bag is not valid: the table of faults, and which of them is named.
use Rattle.std.specs.Prelude.{◌≡◌, ℕ, ◌<◌, true, List, [], ◌⊎◌, ◌≢◌, length, Contains, Some}
use Rattle.bag_text.specs.TransferForm.{File}
use Rattle.bag_text.specs.Paths.{comes_before}
use Rattle.bag_text.specs.declared.declaration.Version.{Version}
use Rattle.bag_text.specs.declared.declaration.DeclFault.{DeclFault}
use Rattle.bag_text.specs.declared.checksum.Algorithm.{Algorithm}
use Rattle.bag_text.specs.declared.listing.LineFault.{LineFault}
use Rattle.bag_text.specs.declared.bag_info.InfoFault.{InfoFault}
use Rattle.bag_text.specs.Declaration.{declaration_fault}
use Rattle.bag_text.specs.Manifest.{Lists, ManifestFault}
use Rattle.bag_text.specs.BagInfo.{Pair, SaysInfo, InfoFaultIs}
use Rattle.bag_check.specs.declared.names.Kind.{Kind}
use Rattle.bag_check.specs.declared.names.Kind.TheVariants.{Payload, Tag}
use Rattle.bag_check.specs.declared.rule.Rule.{Rule}
use Rattle.bag_check.specs.declared.rule.Rule.TheVariants as rules_of
use Rattle.bag_check.specs.Contents.{Holds, HasFile, IsPayload, declaration_path, info_path, fetch_path, DeclaresVersion, IsManifestName, word_of, HasManifest, ListsAt, digest}
use Rattle.bag_check.specs.Validity.{NamesCounts, oxums_of, payload_bytes, payload_files}

-- A fault with what it names: a manifest's name, a path, or why a text is refused. A rule of a manifest is
-- broken, with where: the manifest's name and a path.
pub data Fault : Type 0 where
  NoDeclaration : Fault
  Declaration : DeclFault → Fault
  FetchNotSupported : Fault
  UnsupportedAlgorithm : List ℕ → Fault
  NoPayloadManifest : Fault
  ManifestText : List ℕ → LineFault → Fault
  Breaks : Rule → List ℕ → List ℕ → Fault
  InfoText : InfoFault → Fault
  OxumForm : Fault
  OxumTwice : Fault
  OxumWrong : Fault

-- ---- the table

-- a rule of manifests is broken at this manifest and path
abbrev pub IsBroken : List File → Version → Rule → List ℕ → List ℕ → Type 0
IsBroken bag v rules_of.OutsidePayload name path = ListsAt bag v Payload name path × (IsPayload path → ⊥)
IsBroken bag v rules_of.TagManifestListed name path = ListsAt bag v Tag name path × ((alg : List ℕ) × IsManifestName Tag alg path)
IsBroken bag v rules_of.PayloadInTagManifest name path = ListsAt bag v Tag name path × IsPayload path
IsBroken bag v rules_of.PayloadManifestUnlisted name path =
    ((a : Algorithm) × (text : List ℕ) × HasManifest bag Tag a name text)
    × ((alg : List ℕ) × IsManifestName Payload alg path) × HasFile bag path × (ListsAt bag v Tag name path → ⊥)
IsBroken bag v rules_of.Missing name path = ((kind : Kind) × ListsAt bag v kind name path) × (HasFile bag path → ⊥)
IsBroken bag v rules_of.Unlisted name path =
    ((a : Algorithm) × (text : List ℕ) × HasManifest bag Payload a name text)
    × IsPayload path × HasFile bag path × (ListsAt bag v Payload name path → ⊥)
IsBroken bag v rules_of.ChecksumWrong name path =
    (kind : Kind) × (a : Algorithm) × (text : List ℕ) × (checksum : List ℕ) × (content : List ℕ)
    × HasManifest bag kind a name text × Lists v a text path checksum × Holds bag path content × (digest a content ≢ checksum)

-- a label `Payload-Oxum` of a bag-info that is read, with its value
abbrev pub HasOxum : List File → List ℕ → Type 0
HasOxum bag value = (text : List ℕ) × (pairs : List Pair) × Holds bag info_path text × SaysInfo text pairs × Contains (oxums_of pairs) value

-- where a fault applies; from the manifests' texts on only in bags that declare a version
abbrev pub Applies : List File → Fault → Type 0
Applies bag NoDeclaration = HasFile bag declaration_path → ⊥
Applies bag (Declaration f) = (text : List ℕ) × Holds bag declaration_path text × (declaration_fault text ≡ Some f)
Applies bag FetchNotSupported = HasFile bag fetch_path
Applies bag (UnsupportedAlgorithm name) = HasFile bag name × ((kind : Kind) × (alg : List ℕ) × IsManifestName kind alg name × ((a : Algorithm) → alg ≢ word_of a))
Applies bag NoPayloadManifest = (alg name : List ℕ) → IsManifestName Payload alg name → HasFile bag name → ⊥
Applies bag (ManifestText name f) = (v : Version) × DeclaresVersion bag v × ((kind : Kind) × (a : Algorithm) × (text : List ℕ) × HasManifest bag kind a name text × ManifestFault v a text f)
Applies bag (Breaks rule name path) = (v : Version) × DeclaresVersion bag v × IsBroken bag v rule name path
Applies bag (InfoText f) = (v : Version) × DeclaresVersion bag v × ((text : List ℕ) × Holds bag info_path text × InfoFaultIs text f)
Applies bag OxumForm = (v : Version) × DeclaresVersion bag v × ((value : List ℕ) × HasOxum bag value × ((bytes files : ℕ) → NamesCounts value bytes files → ⊥))
Applies bag OxumTwice = (v : Version) × DeclaresVersion bag v × ((text : List ℕ) × (pairs : List Pair) × Holds bag info_path text × SaysInfo text pairs × (1 < length (oxums_of pairs)))
Applies bag OxumWrong = (v : Version) × DeclaresVersion bag v × ((value : List ℕ) × (bytes : ℕ) × (files : ℕ) × HasOxum bag value × NamesCounts value bytes files × ((bytes ≢ payload_bytes bag) ⊎ (files ≢ payload_files bag)))

-- ---- the order: by number, then by the manifest's name, then by the path, by bytes

abbrev pub rule_number : Rule → ℕ
rule_number rules_of.OutsidePayload = 7
rule_number rules_of.TagManifestListed = 8
rule_number rules_of.PayloadInTagManifest = 9
rule_number rules_of.PayloadManifestUnlisted = 10
rule_number rules_of.Missing = 11
rule_number rules_of.Unlisted = 12
rule_number rules_of.ChecksumWrong = 17

abbrev pub fault_number : Fault → ℕ
fault_number NoDeclaration = 1
fault_number (Declaration f) = 2
fault_number FetchNotSupported = 3
fault_number (UnsupportedAlgorithm name) = 4
fault_number NoPayloadManifest = 5
fault_number (ManifestText name f) = 6
fault_number (Breaks rule name path) = rule_number rule
fault_number (InfoText f) = 13
fault_number OxumForm = 14
fault_number OxumTwice = 15
fault_number OxumWrong = 16

-- the name and the path that a fault names, empty where it names none
abbrev pub fault_name : Fault → List ℕ
fault_name (UnsupportedAlgorithm name) = name
fault_name (ManifestText name f) = name
fault_name (Breaks rule name path) = name
fault_name fault = []

abbrev pub fault_path : Fault → List ℕ
fault_path (Breaks rule name path) = path
fault_path fault = []

abbrev pub BreachBefore : List ℕ × List ℕ → List ℕ × List ℕ → Type 0
BreachBefore x y = (comes_before x.0 y.0 ≡ true) ⊎ ((x.0 ≡ y.0) × (comes_before x.1 y.1 ≡ true))

abbrev pub ComesFirst : Fault → Fault → Type 0
ComesFirst x y =
    (fault_number x < fault_number y)
    ⊎ ((fault_number x ≡ fault_number y) × BreachBefore (fault_name x, fault_path x) (fault_name y, fault_path y))

-- The fault that is named of a bag: it applies, and none that applies comes before it.
abbrev pub FirstFault : List File → Fault → Type 0
FirstFault bag fault = Applies bag fault × ((other : Fault) → Applies bag other → ComesFirst other fault → ⊥)
