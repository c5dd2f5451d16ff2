-- A bag judged by computing, one number of the faults after the other: what the code is proved to
-- answer.
use Rattle.std.specs.Prelude.{ℕ, Bool, true, false, not, List, [], ◌∷◌, length, map, filter, find, Option, Some, None, is_some, option_map, Result, Ok, Err, ◌==◌, ◌||◌, nat_lt, if◌then◌else◌}
use Rattle.std.specs.List.{list_any}
use Rattle.bag_text.specs.Answers.{◌>>=◌}
use Rattle.bag_text.specs.TransferForm.{File, content_at}
use Rattle.bag_text.specs.declared.declaration.Version.{Version}
use Rattle.bag_text.specs.declared.declaration.DeclFault.{DeclFault}
use Rattle.bag_text.specs.declared.checksum.Algorithm.{Algorithm}
use Rattle.bag_text.specs.declared.checksum.Checksum.{Checksum}
use Rattle.bag_text.specs.declared.listing.LineFault.{LineFault}
use Rattle.bag_text.specs.declared.bag_info.InfoFault.{InfoFault}
use Rattle.bag_text.specs.DeclarationReading.{declaration_of}
use Rattle.bag_text.specs.ManifestReading.{Entries, Entry, manifest_of, is_path_listed}
use Rattle.bag_text.specs.BagInfo.{Pair}
use Rattle.bag_text.specs.InfoReading.{info_of}
use Rattle.bag_check.specs.declared.names.Kind.{Kind}
use Rattle.bag_check.specs.declared.names.Kind.TheVariants.{Payload, Tag}
use Rattle.bag_check.specs.declared.rule.Rule.{Rule}
use Rattle.bag_check.specs.declared.rule.Rule.TheVariants.{OutsidePayload, TagManifestListed, PayloadInTagManifest, PayloadManifestUnlisted, Missing, Unlisted, ChecksumWrong}
use Rattle.bag_check.specs.Contents.{declaration_path, info_path, fetch_path, is_payload, manifest_name, is_kind, is_manifest_of, algorithm_named}
use Rattle.bag_check.specs.Fixity.{matches_of}
use Rattle.bag_check.specs.Validity.{oxums_of, payload_bytes, payload_files, Report, report_of}
use Rattle.bag_check.specs.Faults.{Fault, NoDeclaration, Declaration, FetchNotSupported, UnsupportedAlgorithm, NoPayloadManifest, ManifestText, Breaks, InfoText, OxumForm, OxumTwice, OxumWrong}
use Rattle.bag_check.specs.OxumReading.{counts_of}

-- ---- files by path

abbrev pub has_path : List File → List ℕ → Bool
has_path bag path = is_some (content_at bag path)

-- ---- the steps

abbrev pub or_declaration : Result Version DeclFault → Result Version Fault
or_declaration (Ok v) = Ok v
or_declaration (Err f) = Err (Declaration f)

abbrev pub declared_by : Option (List ℕ) → Result Version Fault
declared_by None = Err NoDeclaration
declared_by (Some text) = or_declaration (declaration_of text)

abbrev pub version_declared : List File → Result Version Fault
version_declared bag = declared_by (content_at bag declaration_path)

abbrev pub no_fetch : List File → Result (Unit {0}) Fault
no_fetch bag = if has_path bag fetch_path then Err FetchNotSupported else Ok tt

-- a file that is a manifest of a known algorithm
pub record Named : Type 0 where
  pub name : List ℕ
  pub kind : Kind
  pub algorithm : Algorithm
  pub text : List ℕ

abbrev pub named_by : File → Kind → Option Algorithm → Result (Option Named) Fault
named_by f kind None = Err (UnsupportedAlgorithm f.path)
named_by f kind (Some a) = Ok (Some (record { name = f.path; kind = kind; algorithm = a; text = f.content }))

-- what a file is: no manifest, one of a known algorithm, or one that isn't supported
abbrev pub named_or_fault : File → Option (Kind × List ℕ) → Result (Option Named) Fault
named_or_fault f None = Ok None
named_or_fault f (Some found) = named_by f found.0 (algorithm_named found.1)

abbrev pub named_of : File → Result (Option Named) Fault
named_of f = named_or_fault f (manifest_name f.path)

abbrev pub with_manifest : Option Named → List Named → List Named
with_manifest None ms = ms
with_manifest (Some m) ms = m ∷ ms

unfoldable pub manifests_in : List File → Result (List Named) Fault
manifests_in [] = Ok []
manifests_in (f ∷ fs) = named_of f >>= λ found. manifests_in fs >>= λ ms. Ok (with_manifest found ms)

abbrev pub some_payload : List Named → Result (Unit {0}) Fault
some_payload ms = if list_any (λ m. is_kind Payload m.kind) ms then Ok tt else Err NoPayloadManifest

-- a manifest that is read
pub record Listed : Type 0 where
  pub name : List ℕ
  pub kind : Kind
  pub algorithm : Algorithm
  pub entries : Entries

abbrev pub listed_or_fault : Named → Result Entries LineFault → Result Listed Fault
listed_or_fault m (Ok entries) = Ok (record { name = m.name; kind = m.kind; algorithm = m.algorithm; entries = entries })
listed_or_fault m (Err f) = Err (ManifestText m.name f)

unfoldable pub listings_of : Version → List Named → Result (List Listed) Fault
listings_of v [] = Ok []
listings_of v (m ∷ ms) = listed_or_fault m (manifest_of v m.algorithm m.text) >>= λ l. listings_of v ms >>= λ ls. Ok (l ∷ ls)

-- what the manifests among the files list, one of them a payload manifest
abbrev pub listings_in : Version → List File → Result (List Listed) Fault
listings_in v bag = do
  ms ← manifests_in bag
  _ ← some_payload ms
  listings_of v ms

-- ---- the first breach of a rule

-- the manifests that a rule is for: those of one kind, or all
abbrev pub concerns : Rule → Kind → Bool
concerns OutsidePayload kind = is_kind Payload kind
concerns TagManifestListed kind = is_kind Tag kind
concerns PayloadInTagManifest kind = is_kind Tag kind
concerns PayloadManifestUnlisted kind = is_kind Tag kind
concerns Missing kind = true
concerns Unlisted kind = is_kind Payload kind
concerns ChecksumWrong kind = true

-- whether a rule is about files that are to be listed; the others are about what is listed
abbrev pub is_about_files : Rule → Bool
is_about_files OutsidePayload = false
is_about_files TagManifestListed = false
is_about_files PayloadInTagManifest = false
is_about_files PayloadManifestUnlisted = true
is_about_files Missing = false
is_about_files Unlisted = true
is_about_files ChecksumWrong = false

abbrev pub is_wrong : Checksum → Option (List ℕ) → Bool
is_wrong checksum None = false
is_wrong checksum (Some content) = not (matches_of content checksum)

-- whether what is listed of a path breaks a rule
abbrev pub breaks_at : List File → Rule → List ℕ × Entry → Bool
breaks_at bag OutsidePayload e = not (is_payload e.0)
breaks_at bag TagManifestListed e = is_manifest_of Tag e.0
breaks_at bag PayloadInTagManifest e = is_payload e.0
breaks_at bag PayloadManifestUnlisted e = false
breaks_at bag Missing e = not (has_path bag e.0)
breaks_at bag Unlisted e = false
breaks_at bag ChecksumWrong e = is_wrong e.1.checksum (content_at bag e.0)

-- whether a rule asks for the file of this path to be listed
abbrev pub asks_for : Rule → List ℕ → Bool
asks_for OutsidePayload path = false
asks_for TagManifestListed path = false
asks_for PayloadInTagManifest path = false
asks_for PayloadManifestUnlisted path = is_manifest_of Payload path
asks_for Missing path = false
asks_for Unlisted path = is_payload path
asks_for ChecksumWrong path = false

abbrev pub files_to_list : List File → Rule → List File
files_to_list bag rule = filter (λ f. asks_for rule f.path) bag

-- the least path that is listed and breaks a rule, and the least one that is to be listed and isn't
abbrev pub first_listed : List File → Rule → Entries → Option (List ℕ)
first_listed bag rule entries = option_map (λ e. e.0) (find (breaks_at bag rule) entries)

abbrev pub first_unlisted : List File → Rule → Entries → Option (List ℕ)
first_unlisted bag rule entries = find (λ path. not (is_path_listed path entries)) (map (λ f. f.path) (files_to_list bag rule))

-- in one manifest: the least path
abbrev pub first_in : List File → Rule → Listed → Option (List ℕ)
first_in bag rule l =
    if not (concerns rule l.kind) then None
    else if is_about_files rule then first_unlisted bag rule l.entries
    else first_listed bag rule l.entries

abbrev pub or_breach : List ℕ → Option (List ℕ) → Option (List ℕ × List ℕ) → Option (List ℕ × List ℕ)
or_breach name (Some path) later = Some (name, path)
or_breach name None later = later

-- in all of them: the least name, then the least path
unfoldable pub first_breach : List File → Rule → List Listed → Option (List ℕ × List ℕ)
first_breach bag rule [] = None
first_breach bag rule (l ∷ ls) = or_breach l.name (first_in bag rule l) (first_breach bag rule ls)

abbrev pub obeyed_by : Rule → Option (List ℕ × List ℕ) → Result (Unit {0}) Fault
obeyed_by rule None = Ok tt
obeyed_by rule (Some breach) = Err (Breaks rule breach.0 breach.1)

-- rule after rule
unfoldable pub obeys : List File → List Listed → List Rule → Result (Unit {0}) Fault
obeys bag ls [] = Ok tt
obeys bag ls (rule ∷ rules) = obeyed_by rule (first_breach bag rule ls) >>= λ _. obeys bag ls rules

-- the rules about what is listed, checksums aside, by their numbers
abbrev pub listing_rules : List Rule
listing_rules = OutsidePayload ∷ TagManifestListed ∷ PayloadInTagManifest ∷ PayloadManifestUnlisted ∷ Missing ∷ Unlisted ∷ []

-- ---- `bag-info.txt`

-- whether counts that a value names aren't the payload's
abbrev pub are_others : List File → Option (ℕ × ℕ) → Bool
are_others bag None = false
are_others bag (Some counts) = not (counts.0 == payload_bytes bag) || not (counts.1 == payload_files bag)

-- what the values of `Payload-Oxum` give
abbrev pub oxums_obeyed : List File → List (List ℕ) → Result (Unit {0}) Fault
oxums_obeyed bag values =
    if list_any (λ value. not (is_some (counts_of value))) values then Err OxumForm
    else if nat_lt 1 (length values) then Err OxumTwice
    else if list_any (λ value. are_others bag (counts_of value)) values then Err OxumWrong
    else Ok tt

abbrev pub or_info : Result (List Pair) InfoFault → Result (List Pair) Fault
or_info (Ok pairs) = Ok pairs
or_info (Err f) = Err (InfoText f)

abbrev pub info_obeyed : List File → Option (List ℕ) → Result (Unit {0}) Fault
info_obeyed bag None = Ok tt
info_obeyed bag (Some text) = or_info (info_of text) >>= λ pairs. oxums_obeyed bag (oxums_of pairs)

abbrev pub obeys_info : List File → Result (Unit {0}) Fault
obeys_info bag = info_obeyed bag (content_at bag info_path)

-- ---- judging a bag

-- the last steps: `bag-info.txt`, then the checksums
abbrev pub obeys_contents : List File → List Listed → Result (Unit {0}) Fault
obeys_contents bag ls = obeys_info bag >>= λ _. obeys bag ls (ChecksumWrong ∷ [])

abbrev pub judge : List File → Result Report Fault
judge bag = do
  v ← version_declared bag
  _ ← no_fetch bag
  ls ← listings_in v bag
  _ ← obeys bag ls listing_rules
  _ ← obeys_contents bag ls
  Ok (report_of v bag)
