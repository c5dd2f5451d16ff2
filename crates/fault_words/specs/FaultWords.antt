-- What is said of each fault: a sentence with the names and numbers of the fault, and its code at the end.
use Rattle.std.specs.Prelude.{ℕ, List, [], ◌++◌, ◌==◌, Option, Some, None, codes, decimal, if◌then◌else◌}
use Rattle.bag_text.specs.TransferForm.{max_content, max_files, max_form}
use Rattle.bag_text.specs.Paths.{max_path}
use Rattle.bag_text.specs.declared.declaration.DeclFault.{DeclFault}
use Rattle.bag_text.specs.declared.declaration.DeclFault.TheVariants as declarations
use Rattle.bag_text.specs.declared.listing.LineFault.{LineFault}
use Rattle.bag_text.specs.declared.listing.LineFault.TheVariants as manifests
use Rattle.bag_text.specs.declared.bag_info.InfoFault.{InfoFault}
use Rattle.bag_text.specs.declared.bag_info.InfoFault.TheVariants as infos
use Rattle.bag_text.specs.declared.set_fault.SetFault.{SetFault}
use Rattle.bag_text.specs.declared.set_fault.SetFault.TheVariants as forms
use Rattle.bag_check.specs.declared.fault.BagFault.{BagFault}
use Rattle.bag_check.specs.declared.rule.Rule.{Rule}
use Rattle.bag_check.specs.declared.rule.Rule.TheVariants as rules_of
use Rattle.bag_check.specs.Answers.{named_fault}
use Rattle.bag_check.specs.Faults.{Fault, NoDeclaration, Declaration, FetchNotSupported, UnsupportedAlgorithm, NoPayloadManifest, ManifestText, Breaks, InfoText, OxumForm, OxumTwice, OxumWrong}
use Rattle.bag_check.specs.FaultTexts.{printed_text}
use Rattle.fault_words.specs.declared.folder.OddCause.{OddCause}
use Rattle.fault_words.specs.declared.folder.OddCause.TheVariants.{NoFile, NotUtf8}
use Rattle.fault_words.specs.Numbers.{grouped}
use Rattle.office_core.specs.Bounds.{max_callers, max_rules}
use Rattle.office_core.specs.declared.policy_fault.PolicyFault.{PolicyFault}
use Rattle.office_core.specs.declared.policy_fault.PolicyFault.TheVariants as policies

-- ---- of a transfer form

abbrev pub form_words : SetFault → List ℕ
form_words forms.BadOpening = codes "this is no transfer form: it does not begin with the line BAGSET 1 (S1)"
form_words (forms.BadEntry offset) = codes "the entry at byte " ++ decimal offset ++ codes " is neither the line END nor a file with the lengths that its header gives (S2)"
form_words forms.Truncated = codes "the form ends too early: it stops before the end of the line END (S3)"
form_words (forms.OutOfOrder offset) = codes "the entry at byte " ++ decimal offset ++ codes " is out of order: its path does not come after the one before it, byte for byte (S4)"
form_words (forms.BadPath offset) = codes "the entry at byte " ++ decimal offset ++ codes " has no good path: it is not UTF-8, has a NUL, or has a segment that is empty, . or .. (S5)"
form_words forms.TooManyFiles = codes "the form has more files than the " ++ grouped max_files ++ codes " that a bag may have (S6)"
form_words forms.TrailingBytes = codes "the form goes on after its line END (S7)"
form_words forms.PathClash = codes "a path of the form is data, or names both a file and a folder (S8)"
form_words forms.Memory = codes "memory ran out (S9)"

-- of an input that is longer than any that is judged
abbrev pub too_long_words : List ℕ
too_long_words = codes "the form is longer than " ++ grouped max_form ++ codes " bytes, the most that is judged (SIZE)"

-- ---- of the files of a folder that is packed

-- what is said of them, or of the file at fault after its path
abbrev pub folder_words : SetFault → List ℕ
folder_words (forms.BadEntry position) = codes "has more than " ++ grouped max_content ++ codes " bytes, the most that a file of a bag may have (S2)"
folder_words (forms.OutOfOrder position) = codes "does not come after the path before it, byte for byte (S4)"
folder_words (forms.BadPath position) = codes "is no good path: it is not UTF-8, has more than " ++ grouped max_path ++ codes " bytes or a NUL, or has a segment that is empty, . or .. (S5)"
folder_words forms.TooManyFiles = codes "the folder has more files than the " ++ grouped max_files ++ codes " that a bag may have (S6)"
folder_words forms.PathClash = codes "a path of the folder is data, or names both a file and a folder (S8)"
folder_words fault = codes "the files of the folder are no bag"

-- of the entry with this path, that has no place in a form for this cause
abbrev pub words_of_odd_entry : List ℕ → OddCause → List ℕ
words_of_odd_entry path NoFile = codes "the entry " ++ printed_text path ++ codes " of the folder is neither a file nor a folder, such as a link (NAME)"
words_of_odd_entry path NotUtf8 = codes "the entry " ++ printed_text path ++ codes " of the folder has a name that is not UTF-8 (NAME)"

-- of files whose form is longer than any that is written
abbrev pub too_large_words : List ℕ
too_large_words = codes "the form of the folder is longer than " ++ grouped max_form ++ codes " bytes, the most that is written (SIZE)"

-- of a folder that was packed, in which no declaration of a bag is
abbrev pub undeclared_words : List ℕ
undeclared_words = codes "the folder has no bagit.txt, so what was packed is no bag yet"

-- of a folder that was to be made, where something has its name
abbrev pub exists_words : List ℕ
exists_words = codes "something has the name of the folder already, so nothing was unpacked"

-- ---- of the tag files of a bag

abbrev pub declaration_words : DeclFault → List ℕ
declaration_words declarations.NotUtf8 = codes "bagit.txt is not UTF-8 text (B2 V1)"
declaration_words declarations.ByteOrderMark = codes "bagit.txt begins with a byte order mark, and must not (B2 V2)"
declaration_words declarations.NotTwoLines = codes "bagit.txt does not have exactly two lines (B2 V3)"
declaration_words declarations.BadVersionLine = codes "the first line of bagit.txt is not BagIt-Version: and a version such as 1.0 (B2 V4)"
declaration_words declarations.UnsupportedVersion = codes "bagit.txt declares a version other than 1.0 and 0.97 (B2 V5)"
declaration_words declarations.BadEncodingLine = codes "the second line of bagit.txt is not Tag-File-Character-Encoding: and an encoding (B2 V6)"
declaration_words declarations.UnsupportedEncoding = codes "bagit.txt declares an encoding other than UTF-8 (B2 V7)"

-- of the manifest of this name
abbrev pub manifest_words : List ℕ → LineFault → List ℕ
manifest_words name manifests.NotUtf8 = printed_text name ++ codes " is not UTF-8 text (B6 L1)"
manifest_words name manifests.ByteOrderMark = printed_text name ++ codes " begins with a byte order mark, and must not (B6 L2)"
manifest_words name (manifests.BadChecksum line) = codes "line " ++ decimal line ++ codes " of " ++ printed_text name ++ codes " does not begin with a checksum of the right number of hex digits (B6 L3)"
manifest_words name (manifests.NoPath line) = codes "line " ++ decimal line ++ codes " of " ++ printed_text name ++ codes " has no path after its checksum (B6 L4)"
manifest_words name (manifests.BadPath line) = codes "line " ++ decimal line ++ codes " of " ++ printed_text name ++ codes " has no good path (B6 L5)"
manifest_words name (manifests.ListedTwice line) = codes "line " ++ decimal line ++ codes " of " ++ printed_text name ++ codes " lists a path that an earlier line lists (B6 L6)"
manifest_words name manifests.Memory = codes "memory ran out (B6 L7)"

abbrev pub info_words : InfoFault → List ℕ
info_words infos.NotUtf8 = codes "bag-info.txt is not UTF-8 text (B13 I1)"
info_words infos.ByteOrderMark = codes "bag-info.txt begins with a byte order mark, and must not (B13 I2)"
info_words (infos.NoColon line) = codes "line " ++ decimal line ++ codes " of bag-info.txt has no colon (B13 I3)"
info_words (infos.EmptyLabel line) = codes "line " ++ decimal line ++ codes " of bag-info.txt has no label before its colon (B13 I4)"
info_words (infos.StrayContinuation line) = codes "line " ++ decimal line ++ codes " of bag-info.txt continues a value, but no label comes before it (B13 I5)"
info_words infos.Memory = codes "memory ran out (B13 I6)"

-- ---- of a bag

-- of a rule that the manifest breaks at the path, both as they are printed
abbrev pub rule_words : Rule → List ℕ → List ℕ → List ℕ
rule_words rules_of.OutsidePayload manifest path = manifest ++ codes " lists " ++ path ++ codes ", but a payload manifest lists files in data/ alone (B7)"
rule_words rules_of.TagManifestListed manifest path = manifest ++ codes " lists " ++ path ++ codes ", but a tag manifest lists no tag manifest (B8)"
rule_words rules_of.PayloadInTagManifest manifest path = manifest ++ codes " lists " ++ path ++ codes ", but a tag manifest lists no payload file (B9)"
rule_words rules_of.PayloadManifestUnlisted manifest path = manifest ++ codes " does not list " ++ path ++ codes ", but a tag manifest lists every payload manifest (B10)"
rule_words rules_of.Missing manifest path = manifest ++ codes " lists " ++ path ++ codes ", but the bag has no such file (B11)"
rule_words rules_of.Unlisted manifest path = path ++ codes " is in the payload, but " ++ manifest ++ codes " does not list it (B12)"
rule_words rules_of.ChecksumWrong manifest path = codes "the digest of " ++ path ++ codes " is not the checksum in " ++ manifest ++ codes " (B17)"

abbrev pub bag_words : Fault → List ℕ
bag_words NoDeclaration = codes "the bag has no bagit.txt (B1)"
bag_words (Declaration f) = declaration_words f
bag_words FetchNotSupported = codes "the bag has a fetch.txt, and a bag must hold all its files itself (B3)"
bag_words (UnsupportedAlgorithm name) = printed_text name ++ codes " is of an algorithm other than sha256 and sha512 (B4)"
bag_words NoPayloadManifest = codes "the bag has neither manifest-sha256.txt nor manifest-sha512.txt (B5)"
bag_words (ManifestText name f) = manifest_words name f
bag_words (Breaks rule name path) = rule_words rule (printed_text name) (printed_text path)
bag_words (InfoText f) = info_words f
bag_words OxumForm = codes "the Payload-Oxum of bag-info.txt is not two numbers of 1 to 20 digits with a full stop between them (B14)"
bag_words OxumTwice = codes "bag-info.txt has more than one Payload-Oxum (B15)"
bag_words OxumWrong = codes "the bytes and files that Payload-Oxum in bag-info.txt names are not those of the payload (B16)"

-- of the fault that an answer names, or where memory ran out
abbrev pub words_or : Option Fault → List ℕ
words_or None = codes "memory ran out (B18)"
words_or (Some fault) = bag_words fault

abbrev pub words_of_bag : BagFault → List ℕ
words_of_bag fault = words_or (named_fault fault)

-- the sentence of a fault that names no manifest and no line
abbrev pub whole_sentence : Option Fault → Option (List ℕ)
whole_sentence (Some (UnsupportedAlgorithm name)) = None
whole_sentence (Some (ManifestText name f)) = None
whole_sentence (Some (Breaks rule name path)) = None
whole_sentence (Some (InfoText f)) = None
whole_sentence fault = Some (words_or fault)

-- that of a rule that is broken, or nothing
abbrev pub broken_rule_words : Option Fault → List ℕ
broken_rule_words (Some (Breaks rule name path)) = bag_words (Breaks rule name path)
broken_rule_words fault = []

-- ---- of a policy

-- 0 means the rules as a whole
abbrev pub policy_rule_words : ℕ → List ℕ
policy_rule_words number =
    if number == 0 then codes "the rules of the policy are no array: each begins with the line [[rule]] (Y5)"
    else codes "rule " ++ decimal number ++ codes " of the policy is not well formed: it is effect, role, action, collection and class, each with a value that it may have, and under version 2 it may have first and last, days of which first is not after last (Y5)"

abbrev pub policy_words : PolicyFault → List ℕ
policy_words policies.NotToml = codes "the policy is no text in TOML (Y1)"
policy_words policies.BadVersion = codes "the policy has no version, or one that is neither the whole number 1 nor 2 (Y2)"
policy_words policies.UnknownKey = codes "the policy has a key at the top other than version, callers and rule (Y3)"
policy_words policies.BadCaller = codes "the callers of the policy are no table, or a caller or a role is no name (Y4)"
policy_words (policies.BadRule number) = policy_rule_words number
policy_words policies.TooMany = codes "the policy has more than " ++ grouped max_rules ++ codes " rules or more than " ++ grouped max_callers ++ codes " callers (Y6)"
policy_words policies.Memory = codes "memory ran out (Y7)"

-- ---- of a question that names no day

-- where rules of the policy may have days
abbrev pub missing_day_words : List ℕ
missing_day_words = codes "the option --day DAY is missing: the policy has version 2, in which rules may count on certain days alone"

-- ---- of a caller

-- of a caller whom a policy doesn't list
abbrev pub unlisted_words : List ℕ → List ℕ
unlisted_words caller = codes "the caller " ++ printed_text caller ++ codes " is not in the policy, and has the role stranger"
