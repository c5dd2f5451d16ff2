-- The first lines of a text, and whether they are TOML.
use Rattle.fault_words.proofs.Common.{◌≡◌, ◌∙◌, ◌<◌, ◌≤◌, ◌==◌, ℕ, zero, suc, Bool, true, false, List, [], ◌∷◌, length, Some, None, is_some, IsUtf8, refl, sym, ap, arith, if◌then◌else◌, false_from_ne_true, true≢false, IsUtf8-from_is_utf8, is_utf8-from_IsUtf8, Members, no_members, parse_document, first_lines, is_toml, tree_in}
use Rattle.std.specs.Str.{is_utf8}
use Rattle.toml.proofs.OnLiterals.{toml_on_literals}

-- ---- trees

pub no_text_test : (bytes : List ℕ) → ¬ (IsUtf8 bytes) → is_utf8 bytes ≡ false
no_text_test bytes none = false_from_ne_true (is_utf8 bytes) (λ is. none (IsUtf8-from_is_utf8 bytes is))

pub tree_of_text : (bytes : List ℕ) → IsUtf8 bytes → tree_in bytes ≡ parse_document bytes
tree_of_text bytes utf8 = rw (is_utf8-from_IsUtf8 bytes utf8) refl

pub no_tree : (bytes : List ℕ) → (IsUtf8 bytes → parse_document bytes ≡ None) → tree_in bytes ≡ None
no_tree bytes none = by_test (is_utf8 bytes) refl
  where
    by_test : (test : Bool) → is_utf8 bytes ≡ test → (if test then parse_document bytes else None) ≡ None
    by_test true is = none (IsUtf8-from_is_utf8 bytes is)
    by_test false is = refl

-- a text is TOML exactly where it is read
pub text_is_toml : (bytes text : List ℕ) (tree : Members) → text ≡ bytes → IsUtf8 bytes → parse_document text ≡ Some tree → is_toml bytes ≡ true
text_is_toml bytes text tree same utf8 read = ap is_some (tree_of_text bytes utf8 ∙ ap parse_document (sym same) ∙ read)

pub text_is_no_toml : (bytes text : List ℕ) → text ≡ bytes → IsUtf8 bytes → parse_document text ≡ None → is_toml bytes ≡ false
text_is_no_toml bytes text same utf8 refused = ap is_some (tree_of_text bytes utf8 ∙ ap parse_document (sym same) ∙ refused)

-- ---- lines

pub first_lines-zero : (bytes : List ℕ) → first_lines 0 bytes ≡ []
first_lines-zero [] = refl
first_lines-zero (byte ∷ more) = refl

either : (test : Bool) (count : ℕ) (more : List ℕ) → first_lines count more ≡ more → first_lines (suc count) more ≡ more → first_lines (if test then count else suc count) more ≡ more
either true count more fewer as_many = fewer
either false count more fewer as_many = as_many

pub first_lines-all : (count : ℕ) (bytes : List ℕ) → length bytes ≤ count → first_lines count bytes ≡ bytes
first_lines-all count [] few = refl
first_lines-all zero (byte ∷ more) few = absurd (omega (arith, few))
first_lines-all (suc count) (byte ∷ more) few =
    ap (λ rest. byte ∷ rest) (either (byte == 10) count more (first_lines-all count more (omega (arith, few))) (first_lines-all (suc count) more (omega (arith, few))))

-- ---- texts without a byte

empty_text : parse_document [] ≡ Some no_members
unfolding toml_on_literals
empty_text = refl

pub empty_is_toml : (bytes : List ℕ) → is_toml (first_lines 0 bytes) ≡ true
empty_is_toml bytes = ap is_toml (first_lines-zero bytes) ∙ text_is_toml [] [] no_members refl ([], (refl, refl)) empty_text

pub broken_lines_are_some : (count : ℕ) (bytes : List ℕ) → is_toml (first_lines count bytes) ≡ false → 0 < count
broken_lines_are_some zero bytes broken = absurd (true≢false (sym (empty_is_toml bytes) ∙ broken))
broken_lines_are_some (suc count) bytes broken = omega arith
