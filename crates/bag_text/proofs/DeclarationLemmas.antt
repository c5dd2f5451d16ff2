-- What a text declares, and its first fault.
use Rattle.bag_text.proofs.FirstLemmas.{same_Some, not-false, bind_ok, ok_if, ok_unless, some_if, ◌≡◌, ℕ, true, false, cond, eqb, not, List, [], ◌∷◌, ◌++◌, length, map, take, drop, refl, sym, ap, ◌∙◌, arith, append_assoc, Option, Some, None, Result, Ok, Err, codes, bytes_eq, ok_or, ◌==◌, if◌then◌else◌, slice_get, option_and_then, ◌↔◌, IfOk, IfErr, option_map_or, is_utf8, bytes_eq-Decides, take-append-drop, drop_at, take-append_seam, nat_tests, is_blank, has_mark, trim_blanks, skip_blanks, drop_last_blanks, lines, ◌>>=◌, Version, V1_0, V0_97, to_ascii_lowercase, version_text, version_label, encoding_label, IsLabelled, Declares, after_label, is_version_text, is_supported, is_utf8_name, declaration_fault, version_declared, encoding_fault, exactly_two, declaration_of, trim_round, trimmed_round, map_skipped, map_dropped}
use Rattle.bag_text.specs.declared.declaration.DeclFault.{DeclFault}
use Rattle.bag_text.specs.declared.declaration.DeclFault.TheVariants.{NotTwoLines, BadVersionLine, UnsupportedVersion, BadEncodingLine, UnsupportedEncoding}
use Rattle.bag_text.proofs.CaseLemmas.{by_Bool, by_Result}

-- four texts, one after another
nested : (a b c d : List ℕ) → a ++ b ++ c ++ d ≡ a ++ (b ++ (c ++ d))
nested a b c d = append_assoc (a ++ b) c d ∙ append_assoc a b (c ++ d)

-- a value that is read stands after its label
pub label_read : (label value line : List ℕ) → after_label label line ≡ Some value → IsLabelled label value line
label_read label value line e =
    let read = some_if _ _ _ e in
    let same : take (length label) line ≡ label = (bytes_eq-Decides (take (length label) line) label).0 read.0 in
    let found : trim_blanks (drop (length label) line) ≡ value = same_Some _ _ read.1 in
    let parts = trimmed_round (drop (length label) line) in (
      parts.before,
      parts.after,
      parts.first,
      parts.last,
      sym (take-append-drop (length label) line) ∙ ap (λ (x : List ℕ). x ++ drop (length label) line) same ∙ ap (λ (x : List ℕ). label ++ x) (parts.is ∙ ap (λ (x : List ℕ). parts.before ++ (x ++ parts.after)) found) ∙ sym (nested label parts.before value parts.after),
    )

-- a value after its label is read, without the blanks round it
pub label_again : (label value line : List ℕ) → IsLabelled label value line → after_label label line ≡ Some (trim_blanks value)
label_again label value line (before, after, first, last, is) =
    let rest : List ℕ = before ++ (value ++ after) in
    ap (after_label label) (is ∙ nested label before value after) ∙ rw ((bytes_eq-Decides (take (length label) (label ++ rest)) label).1 (take-append_seam label rest), drop_at label rest (length label) refl, trim_round before value after first last) refl

-- ---- the values

-- a letter's case says nothing of blanks
lowered_blank : (b : ℕ) → is_blank (to_ascii_lowercase b) ≡ is_blank b
lowered_blank b = grind (arith, nat_tests)

-- the blanks round the encoding are none of it
encoding_trimmed : (value : List ℕ) → map to_ascii_lowercase value ≡ codes "utf-8" → map to_ascii_lowercase (trim_blanks value) ≡ codes "utf-8"
encoding_trimmed value e = sym (map_dropped to_ascii_lowercase lowered_blank (skip_blanks value)) ∙ ap drop_last_blanks (sym (map_skipped to_ascii_lowercase lowered_blank value)) ∙ ap trim_blanks e

version_trimmed : (v : Version) → trim_blanks (version_text v) ≡ version_text v
version_trimmed V1_0 = refl
version_trimmed V0_97 = refl

-- ---- the version's line

is_text : (a b : List ℕ) → bytes_eq a b ≡ true → a ≡ b
is_text a b = (bytes_eq-Decides a b).0

-- the version that a value names, or its fault
abbrev version_by : Option (List ℕ) → Result Version DeclFault
version_by o = do
  value ← ok_or o BadVersionLine
  if bytes_eq value (codes "1.0") then Ok V1_0
      else if bytes_eq value (codes "0.97") then Ok V0_97
      else if is_version_text value then Err UnsupportedVersion
      else Err BadVersionLine

version_named : (o : Option (List ℕ)) (v : Version) → version_by o ≡ Ok v → o ≡ Some (version_text v)
version_named None v e = absurd cc
version_named (Some value) v e = by_Bool (bytes_eq value (codes "1.0"))
    (λ is. let read = rw is at e in let now : v ≡ V1_0 = cc in rw (now, is_text value (codes "1.0") is) refl)
    (λ one. by_Bool (bytes_eq value (codes "0.97"))
    (λ is. let read = rw (one, is) at e in let now : v ≡ V0_97 = cc in rw (now, is_text value (codes "0.97") is) refl)
    (λ two. by_Bool (is_version_text value) (λ is. let wrong = rw (one, two, is) at e in absurd cc) (λ is. let wrong = rw (one, two, is) at e in absurd cc)))

version_again : (v : Version) → version_by (Some (version_text v)) ≡ Ok v
version_again V1_0 = refl
version_again V0_97 = refl

-- ---- the encoding's line

abbrev encoding_by : Option (List ℕ) → Result (Unit {0}) DeclFault
encoding_by o = do
  value ← ok_or o BadEncodingLine
  if length value == 0 then Err BadEncodingLine
      else if is_utf8_name value then Ok tt
      else Err UnsupportedEncoding

abbrev sound : Result (Unit {0}) DeclFault
sound = Ok tt

-- what the second line says where it has no fault
record Encoded (o : Option (List ℕ)) : Type 0 where
  value : List ℕ
  some : o ≡ Some value
  is : map to_ascii_lowercase value ≡ codes "utf-8"

encoding_named : (o : Option (List ℕ)) → encoding_by o ≡ sound → Encoded o
encoding_named None e = absurd cc
encoding_named (Some value) e =
    let some = ok_unless (eqb (length value) 0) BadEncodingLine (cond (is_utf8_name value) sound (Err UnsupportedEncoding)) tt e in
    let named = ok_if (is_utf8_name value) sound UnsupportedEncoding tt some.1 in
    record { value = value; some = refl; is = is_text (map to_ascii_lowercase value) (codes "utf-8") named.0 }

encoding_again : (value : List ℕ) → map to_ascii_lowercase value ≡ codes "utf-8" → encoding_by (Some value) ≡ sound
encoding_again [] e = absurd cc
encoding_again (b ∷ value) e =
    let some : eqb (length (b ∷ value)) 0 ≡ false = grind (arith, nat_tests) in
    rw (some, (bytes_eq-Decides (map to_ascii_lowercase (b ∷ value)) (codes "utf-8")).1 e) refl

-- ---- the text

-- the version that two lines declare, or their fault
abbrev of_two : List ℕ → List ℕ → Result Version DeclFault
of_two first second = version_declared first >>= λ version. encoding_fault second >>= λ _. Ok version

-- each of the two lines says its part
both_say : (first second : List ℕ) (v : Version) → of_two first second ≡ Ok v → (version_declared first ≡ Ok v) × (encoding_fault second ≡ sound)
both_say first second v e =
    let version = bind_ok (version_declared first) (λ version. encoding_fault second >>= λ _. Ok version) v e in
    let encoding = bind_ok (encoding_fault second) (λ _. Ok version.0) v version.2 in
    (version.1 ∙ encoding.2, encoding.1)

-- A version that is read is declared.
pub is_declared : (text : List ℕ) (v : Version) → declaration_of text ≡ Ok v → Declares text v
is_declared text v e =
    let utf8 = ok_unless _ _ _ _ e in
    let mark = ok_unless _ _ _ _ utf8.1 in
    by_lines (not-false _ utf8.0) mark.0 (lines text) refl mark.1
  where
    by_lines : is_utf8 text ≡ true → has_mark text ≡ false → (ls : List (List ℕ)) → lines text ≡ ls → (exactly_two ls >>= λ pair. of_two pair.0 pair.1) ≡ Ok v → Declares text v
    by_lines utf8 unmarked (first ∷ second ∷ []) two e =
        let both = both_say first second v e in
        let said = encoding_named (after_label encoding_label second) both.1 in
        record {
          utf8 = utf8;
          unmarked = unmarked;
          first = first;
          second = second;
          encoding = said.value;
          two = two;
          version = label_read version_label (version_text v) first (version_named (after_label version_label first) v both.0);
          encoded = label_read encoding_label said.value second said.some;
          is_utf8_in_any_case = said.is;
        }
    by_lines utf8 unmarked _ two e = absurd cc

-- A version that is declared is read.
pub declared_again : (text : List ℕ) (v : Version) → Declares text v → declaration_of text ≡ Ok v
declared_again text v is =
    let version : version_declared is.first ≡ Ok v = ap version_by (label_again version_label (version_text v) is.first is.version ∙ ap (λ (x : List ℕ). Some x) (version_trimmed v)) ∙ version_again v in
    let encoding : encoding_fault is.second ≡ sound = ap encoding_by (label_again encoding_label is.encoding is.second is.encoded) ∙ encoding_again (trim_blanks is.encoding) (encoding_trimmed is.encoding is.is_utf8_in_any_case) in
    rw (is.utf8, is.unmarked, is.two) (ap (λ (r : Result Version DeclFault). r >>= λ version. encoding_fault is.second >>= λ _. Ok version) version ∙ ap (λ (r : Result (Unit {0}) DeclFault). r >>= λ _. Ok v) encoding)

-- ---- the table of faults

abbrev fault_in : Result Version DeclFault → Option DeclFault
fault_in (Ok v) = None
fault_in (Err f) = Some f

abbrev encoding_rows : Option (List ℕ) → Option DeclFault
encoding_rows o =
    cond (option_map_or (λ value. length value == 0) o true) (Some BadEncodingLine)
    (cond (option_map_or (λ value. not (is_utf8_name value)) o true) (Some UnsupportedEncoding) None)

abbrev version_rows : Option (List ℕ) → Option (List ℕ) → Option DeclFault
version_rows o p =
    cond (option_map_or (λ value. not (is_version_text value)) o true) (Some BadVersionLine)
    (cond (option_map_or (λ value. not (is_supported value)) o true) (Some UnsupportedVersion) (encoding_rows p))

encoding_table : (v : Version) (o : Option (List ℕ)) → encoding_rows o ≡ fault_in (encoding_by o >>= λ _. Ok v)
encoding_table v None = refl
encoding_table v (Some value) =
    by_Bool (eqb (length value) 0) (λ x. rw x refl) (λ x. by_Bool (is_utf8_name value) (λ y. rw (x, y) refl) (λ y. rw (x, y) refl))

version_table : (o p : Option (List ℕ)) → version_rows o p ≡ fault_in (version_by o >>= λ version. encoding_by p >>= λ _. Ok version)
version_table None p = refl
version_table (Some value) p = by_Bool (bytes_eq value (codes "1.0"))
    (λ x. rw (x, ap is_version_text (is_text value (codes "1.0") x)) (encoding_table V1_0 p))
    (λ x. by_Bool (bytes_eq value (codes "0.97"))
    (λ y. rw (x, y, ap is_version_text (is_text value (codes "0.97") y)) (encoding_table V0_97 p))
    (λ y. by_Bool (is_version_text value) (λ z. rw (x, y, z) refl) (λ z. rw (x, y, z) refl)))

-- The first row that stands is the fault of the reading.
pub table : (text : List ℕ) → declaration_fault text ≡ fault_in (declaration_of text)
table text =
    by_Bool (is_utf8 text) (λ x. by_Bool (has_mark text) (λ y. rw (x, y) refl) (λ y. rw (x, y) (by_lines (lines text)))) (λ x. rw x refl)
  where
    by_lines : (ls : List (List ℕ)) → cond (not (eqb (length ls) 2)) (Some NotTwoLines) (version_rows (option_and_then (after_label version_label) (slice_get ls 0)) (option_and_then (after_label encoding_label) (slice_get ls 1))) ≡ fault_in (exactly_two ls >>= λ pair. of_two pair.0 pair.1)
    by_lines [] = refl
    by_lines (a ∷ []) = refl
    by_lines (a ∷ b ∷ c ∷ ls) = let more : eqb (length (a ∷ b ∷ c ∷ ls)) 2 ≡ false = grind (arith, nat_tests) in rw more refl
    by_lines (first ∷ second ∷ []) = version_table (after_label version_label first) (after_label encoding_label second)

-- A refusal is the first row that stands.
pub refused : (text : List ℕ) (f : DeclFault) → declaration_of text ≡ Err f → declaration_fault text ≡ Some f
refused text f e = table text ∙ ap fault_in e

-- The first row that stands is the refusal.
pub refused_again : (text : List ℕ) (f : DeclFault) → declaration_fault text ≡ Some f → declaration_of text ≡ Err f
refused_again text f e =
    let fault = sym (table text) ∙ e in
    by_Result (declaration_of text) (λ v is. let wrong = rw is at fault in absurd cc) (λ g is. is ∙ ap Err (same_Some g f (rw is at fault)))

-- A text declares a version exactly where reading answers it.
pub declares : (text : List ℕ) (v : Version) → (declaration_of text ≡ Ok v) ↔ Declares text v
declares text v = (is_declared text v, declared_again text v)

-- A fault is the first that stands exactly where reading answers it.
pub is_first_fault : (text : List ℕ) (f : DeclFault) → (declaration_of text ≡ Err f) ↔ (declaration_fault text ≡ Some f)
is_first_fault text f = (refused text f, refused_again text f)

-- ---- what an answer says

pub answer_declared : (r : Result Version DeclFault) (text : List ℕ) → r ≡ declaration_of text → IfOk r (λ v. Declares text v)
answer_declared (Ok v) text e = is_declared text v (sym e)
answer_declared (Err f) text e = tt

pub answer_refused : (r : Result Version DeclFault) (text : List ℕ) → r ≡ declaration_of text → IfErr r (λ f. declaration_fault text ≡ Some f)
answer_refused (Ok v) text e = tt
answer_refused (Err f) text e = refused text f (sym e)
