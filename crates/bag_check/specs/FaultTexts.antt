-- How a fault is printed: the code, then what it names, each after a space. In names and paths every byte below
-- 33, every byte above 126 and `%` is printed as `%` and two capital hex digits.
use Rattle.std.specs.Prelude.{ℕ, Bool, List, ◌∷◌, [], ◌++◌, ◌==◌, ◌||◌, nat_lt, codes, decimal, if◌then◌else◌}
use Rattle.std.specs.List.{flat_map}
use Rattle.percent_encoding.specs.Percent.{percent_encode_byte}
use Rattle.bag_text.specs.FaultTexts.{declaration_fault_text, line_fault_text, info_fault_text}
use Rattle.bag_check.specs.Faults.{Fault, NoDeclaration, Declaration, FetchNotSupported, UnsupportedAlgorithm, NoPayloadManifest, ManifestText, Breaks, InfoText, OxumForm, OxumTwice, OxumWrong, rule_number}

abbrev pub is_escaped : ℕ → Bool
is_escaped b = nat_lt b 33 || nat_lt 126 b || b == 37

abbrev pub printed_byte : ℕ → List ℕ
printed_byte b = if is_escaped b then percent_encode_byte b else b ∷ []

-- a name or a path, as it is printed
abbrev pub printed_text : List ℕ → List ℕ
printed_text path = flat_map printed_byte path

abbrev pub fault_text : Fault → List ℕ
fault_text NoDeclaration = codes "B1"
fault_text (Declaration f) = codes "B2 " ++ declaration_fault_text f
fault_text FetchNotSupported = codes "B3"
fault_text (UnsupportedAlgorithm name) = codes "B4 " ++ printed_text name
fault_text NoPayloadManifest = codes "B5"
fault_text (ManifestText name f) = codes "B6 " ++ printed_text name ++ codes " " ++ line_fault_text f
fault_text (Breaks rule name path) = codes "B" ++ decimal (rule_number rule) ++ codes " " ++ printed_text name ++ codes " " ++ printed_text path
fault_text (InfoText f) = codes "B13 " ++ info_fault_text f
fault_text OxumForm = codes "B14"
fault_text OxumTwice = codes "B15"
fault_text OxumWrong = codes "B16"
