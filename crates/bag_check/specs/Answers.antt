-- What the calls of this crate answer, as the definitions speak of it.
use Rattle.std.specs.Prelude.{◌≡◌, ℕ, List, [], ◌++◌, map, codes, Option, Some, None}
use Rattle.std.specs.Cow.{cow_str_bytes}
use Rattle.std.specs.declared.borrow.CowStr.{CowStr}
use Rattle.std.specs.Global.{Global}
use denote.Ref.{Bor}
use Rattle.bag_text.specs.ManifestReading.{entry_in}
use Rattle.bag_check.specs.declared.fault.BagFault.{BagFault}
use Rattle.bag_check.specs.declared.fault.BagFault.TheVariants as faults
use Rattle.bag_check.specs.declared.rule.Rule.TheVariants as rules_of
use Rattle.bag_text.specs.declared.report.BagReport.{BagReport}
use Rattle.bag_check.specs.declared.oxum.Counts.{Counts}
use Rattle.bag_check.specs.declared.listed.Named.{Named}
use Rattle.bag_check.specs.declared.listed.Listed.{Listed}
use Rattle.bag_check.specs.Faults.{Fault, NoDeclaration, Declaration, FetchNotSupported, UnsupportedAlgorithm, NoPayloadManifest, ManifestText, Breaks, InfoText, OxumForm, OxumTwice, OxumWrong, FirstFault, fault_number}
use Rattle.bag_text.specs.TransferForm.{File}
use Rattle.bag_text.specs.FaultTexts.{declaration_fault_text, line_fault_text, info_fault_text}
use Rattle.bag_check.specs.FaultTexts.{fault_text, printed_text}
use Rattle.bag_check.specs.Validity.{Report}
use Rattle.bag_check.specs.Judging as judging

-- the fault that an answer names, or none where memory ran out
abbrev pub named_fault : BagFault → Option Fault
named_fault faults.NoDeclaration = Some NoDeclaration
named_fault (faults.Declaration f) = Some (Declaration f)
named_fault faults.FetchNotSupported = Some FetchNotSupported
named_fault (faults.UnsupportedAlgorithm name) = Some (UnsupportedAlgorithm name.now)
named_fault faults.NoPayloadManifest = Some NoPayloadManifest
named_fault (faults.ManifestText name f) = Some (ManifestText name.now f)
named_fault (faults.OutsidePayload name path) = Some (Breaks rules_of.OutsidePayload name.now (cow_str_bytes path))
named_fault (faults.TagManifestListed name path) = Some (Breaks rules_of.TagManifestListed name.now (cow_str_bytes path))
named_fault (faults.PayloadInTagManifest name path) = Some (Breaks rules_of.PayloadInTagManifest name.now (cow_str_bytes path))
named_fault (faults.PayloadManifestUnlisted name path) = Some (Breaks rules_of.PayloadManifestUnlisted name.now (cow_str_bytes path))
named_fault (faults.Missing name path) = Some (Breaks rules_of.Missing name.now (cow_str_bytes path))
named_fault (faults.Unlisted name path) = Some (Breaks rules_of.Unlisted name.now (cow_str_bytes path))
named_fault (faults.InfoText f) = Some (InfoText f)
named_fault faults.OxumForm = Some OxumForm
named_fault faults.OxumTwice = Some OxumTwice
named_fault faults.OxumWrong = Some OxumWrong
named_fault (faults.ChecksumWrong name path) = Some (Breaks rules_of.ChecksumWrong name.now (cow_str_bytes path))
named_fault faults.Memory = None

-- the fault that comes first of those that the bag has
abbrev pub NamesFirst : List File → BagFault → Type 0
NamesFirst bag fault = (first : Fault) × (named_fault fault ≡ Some first) × FirstFault bag first

abbrev pub text_or : Option Fault → List ℕ
text_or None = codes "B18"
text_or (Some fault) = fault_text fault

abbrev pub printed_fault : BagFault → List ℕ
printed_fault fault = text_or (named_fault fault)

-- ---- the parts of a printed fault

abbrev pub number_or : Option Fault → ℕ
number_or None = 18
number_or (Some fault) = fault_number fault

-- the manifest that a fault names
abbrev pub manifest_in : Fault → Option (List ℕ)
manifest_in (UnsupportedAlgorithm name) = Some name
manifest_in (ManifestText name f) = Some name
manifest_in (Breaks rule name path) = Some name
manifest_in fault = None

-- and the path
abbrev pub path_in : Fault → Option (List ℕ)
path_in (Breaks rule name path) = Some path
path_in fault = None

abbrev pub after_space : Option (List ℕ) → List ℕ
after_space None = []
after_space (Some name) = codes " " ++ printed_text name

-- why a text is refused
abbrev pub cause_or : Option Fault → List ℕ
cause_or (Some (Declaration f)) = codes " " ++ declaration_fault_text f
cause_or (Some (ManifestText name f)) = codes " " ++ line_fault_text f
cause_or (Some (InfoText f)) = codes " " ++ info_fault_text f
cause_or fault = []

-- ---- what else is seen of an answer

abbrev pub report_seen : BagReport → Report
report_seen r = record { version = r.version; files = r.files; bytes = r.bytes; manifests = r.manifests }

abbrev pub named_seen : Named → judging.Named
named_seen m = record { name = m.name.now; kind = m.kind; algorithm = m.algorithm; text = m.text.now }

abbrev pub listed_seen : Listed → judging.Listed
listed_seen l = record { name = l.name.now; kind = l.kind; algorithm = l.algorithm; entries = map entry_in l.manifest.entries.entries }

-- the counts that a value names, as the definitions speak of them: the bytes, and the files
abbrev pub counts_seen : Counts → ℕ × ℕ
counts_seen counts = (counts.bytes, counts.files)

-- a breach as the definitions speak of it: the manifest's name, and the path
abbrev pub breach_seen : Bor (List ℕ) × CowStr Global → List ℕ × List ℕ
breach_seen breach = (breach.0.now, cow_str_bytes breach.1)
