-- What reading a declaration gives, step by step.
use Rattle.std.specs.Prelude.{ℕ, not, List, [], ◌∷◌, length, Result, Ok, Err, ok_or, ◌==◌, bytes_eq, codes, if◌then◌else◌}
use Rattle.std.specs.Str.{is_utf8}
use Rattle.bag_text.specs.Answers.{◌>>=◌}
use Rattle.bag_text.specs.Text.{has_mark}
use Rattle.bag_text.specs.Lines.{lines}
use Rattle.bag_text.specs.Declaration.{after_label, version_label, encoding_label, is_version_text, is_utf8_name}
use Rattle.bag_text.specs.declared.declaration.Version.{Version}
use Rattle.bag_text.specs.declared.declaration.Version.TheVariants.{V1_0, V0_97}
use Rattle.bag_text.specs.declared.declaration.DeclFault.{DeclFault}
use Rattle.bag_text.specs.declared.declaration.DeclFault.TheVariants.{NotUtf8, ByteOrderMark, NotTwoLines, BadVersionLine, UnsupportedVersion, BadEncodingLine, UnsupportedEncoding}

abbrev pub version_declared : List ℕ → Result Version DeclFault
version_declared line = do
  value ← ok_or (after_label version_label line) BadVersionLine
  if bytes_eq value (codes "1.0") then Ok V1_0
      else if bytes_eq value (codes "0.97") then Ok V0_97
      else if is_version_text value then Err UnsupportedVersion
      else Err BadVersionLine

abbrev pub encoding_fault : List ℕ → Result (Unit {0}) DeclFault
encoding_fault line = do
  value ← ok_or (after_label encoding_label line) BadEncodingLine
  if length value == 0 then Err BadEncodingLine
      else if is_utf8_name value then Ok tt
      else Err UnsupportedEncoding

abbrev pub exactly_two : List (List ℕ) → Result (List ℕ × List ℕ) DeclFault
exactly_two (first ∷ second ∷ []) = Ok (first, second)
exactly_two _ = Err NotTwoLines

abbrev pub two_lines_of : List ℕ → Result (List ℕ × List ℕ) DeclFault
two_lines_of text = exactly_two (lines text)

-- the version that a text declares, or its first fault
abbrev pub declaration_of : List ℕ → Result Version DeclFault
declaration_of text =
    if not (is_utf8 text) then Err NotUtf8
    else if has_mark text then Err ByteOrderMark
    else two_lines_of text >>= λ pair. version_declared pair.0 >>= λ version. encoding_fault pair.1 >>= λ _. Ok version
