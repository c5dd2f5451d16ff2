-- What is said of words that ask for nothing.
use Rattle.std.specs.Prelude.{◌≡◌, ◌++◌, ◌∷◌, [], ℕ, List, codes, if◌then◌else◌, string_bytes}
use Rattle.std.specs.List.{list_any}
use Rattle.std.specs.Str.{bytes_eq}
use Rattle.bag_check.specs.FaultTexts.{printed_text}
use Rattle.clap.specs.Words.{Text}
use Rattle.command_line.specs.Lines.{Names}
use Rattle.command_line.specs.declared.subcommand.Subcommand.{Subcommand}
use Rattle.command_line.specs.declared.use_fault.UseFault.{UseFault}
use Rattle.command_line.specs.declared.use_fault.UseFault.TheVariants as faults

-- ---- words that name no subcommand

-- the first word names no subcommand, or there is none
abbrev pub NamesNone : List Text → Type 0
NamesNone words = (subcommand : Subcommand) → Names words subcommand → ⊥

-- the lines of usage of all subcommands of the program
abbrev pub usage_lines : List ℕ
usage_lines =
    codes "Usage: depot check FILE" ++ 10 ∷ codes "       depot pack DIR FILE" ++ 10 ∷ codes "       depot unpack FILE DIR" ++ 10
    ∷ codes "       depot explain [--day DAY] POLICY CALLER ACTION COLLECTION CLASS" ++ 10 ∷ codes "       depot policy STORE POLICY" ++ 10
    ∷ codes "       depot ask STORE DAY" ++ 10 ∷ codes "       depot replay [--policy POLICY] STORE" ++ 10
    ∷ codes "       depot serve --port P --count N STORE DAY" ++ 10 ∷ []

-- what the program is for, and where more is said of a subcommand
abbrev pub more_lines : List ℕ
more_lines =
    codes "Depot checks and keeps BagIt bags, serves them by a policy, and destroys them when due." ++ 10
    ∷ codes "depot COMMAND --help says what each command takes." ++ 10 ∷ []

-- the line of the version
abbrev pub version_line : Text → List ℕ
version_line version = codes "depot " ++ version ++ 10 ∷ []

-- how the program of this version is used: the line of the version, the lines of usage, and those after an empty line
abbrev pub uses_text : Text → List ℕ
uses_text version = version_line version ++ usage_lines ++ 10 ∷ more_lines

-- the words that ask how the program is used
abbrev pub help_words : List Text
help_words = codes "help" ∷ codes "--help" ∷ codes "-h" ∷ []

-- that the program has no subcommand of this name, and how it is used
abbrev pub no_subcommand_text : Text → Text → List ℕ
no_subcommand_text version word = codes "depot has no subcommand " ++ printed_text word ++ 10 ∷ uses_text version

-- what is said of such a first word
abbrev pub usage_for_word : Text → Text → List ℕ
usage_for_word version word = if list_any (bytes_eq word) help_words then uses_text version else no_subcommand_text version word

-- what is said of such words
abbrev pub usage_for : Text → List Text → List ℕ
usage_for version [] = uses_text version
usage_for version (word ∷ words) = usage_for_word version word

-- ---- how it is said

abbrev pub use_fault_text : UseFault → List ℕ
use_fault_text (faults.Use text) = string_bytes text
use_fault_text faults.Memory = codes "memory"

-- a fault of use with this text, unless memory ran out
abbrev pub IsExplainedBy : List ℕ → UseFault → Type 0
IsExplainedBy why (faults.Use text) = string_bytes text ≡ why
IsExplainedBy why faults.Memory = Unit {0}
