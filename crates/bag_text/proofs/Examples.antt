-- The definitions at the bytes of a small bag.
use Rattle.bag_text.proofs.Common.{◌≡◌, ℕ, List, [], ◌∷◌, ◌++◌, refl, codes, Some, is_utf8, chars, decode_pairs, V1_0, V0_97, PathClash, ListedTwice, StrayContinuation, lines, path_fault, decode, entry_of, add_line_of, entries_of, manifest_of, info_of, pairs_from, add_info_line, File, set_text, set_of, literal_at, digits_at, number_at, header_at, end_or_head_at, file_at, entry_at, files_at, Ok, Err, Sha256, declaration_fault, declaration_of}
use Rattle.std.specs.Fmt.{digits}
use Rattle.bag_text.specs.declared.declaration.DeclFault.TheVariants.{UnsupportedVersion}
use Rattle.bag_text.specs.declared.path.PathFault.TheVariants.{DotSegment}

unfoldable pub declaration : List ℕ
declaration = codes "BagIt-Version: 1.0" ++ 10 ∷ [] ++ codes "Tag-File-Character-Encoding: UTF-8" ++ 10 ∷ []

unfoldable pub manifest : List ℕ
manifest = codes "ba7816bf8f01cfea414140de5dae2223b00361a396177a9cb410ff61f20015ad  data/a" ++ 10 ∷ []

unfoldable pub bag : List File
bag =
    record { path = codes "bagit.txt"; content = declaration }
    ∷ record { path = codes "data/a"; content = codes "abc" }
    ∷ record { path = codes "manifest-sha256.txt"; content = manifest }
    ∷ []

unfoldable pub text : List ℕ
text =
    codes "BAGSET 1" ++ 10 ∷ []
    ++ codes "FILE 9 54" ++ 10 ∷ [] ++ codes "bagit.txt" ++ declaration ++ 10 ∷ []
    ++ codes "FILE 6 3" ++ 10 ∷ [] ++ codes "data/aabc" ++ 10 ∷ []
    ++ codes "FILE 19 73" ++ 10 ∷ [] ++ codes "manifest-sha256.txt" ++ manifest ++ 10 ∷ []
    ++ codes "END" ++ 10 ∷ []

-- a CR, an LF, a CRLF, an empty line, and a last line without an end
ends_of_each_kind : lines (codes "a" ++ 13 ∷ codes "b" ++ 10 ∷ codes "c" ++ 13 ∷ 10 ∷ 13 ∷ codes "d") ≡ codes "a" ∷ codes "b" ∷ codes "c" ∷ [] ∷ codes "d" ∷ []
unfolding lines
ends_of_each_kind = refl

-- a segment of dots, before a NUL
dots_first : path_fault (codes "data/../a" ++ 0 ∷ []) ≡ Some DotSegment
dots_first = refl

-- each line ends at a CR, and blanks stand round the values
declares_by_crs : declaration_of (codes "BagIt-Version:0.97 " ++ 13 ∷ codes "Tag-File-Character-Encoding: " ++ 9 ∷ codes "utf-8" ++ 13 ∷ []) ≡ Ok V0_97
unfolding lines is_utf8 chars lib.Utf8.encode
declares_by_crs = refl

-- the version comes before the encoding
version_first : declaration_fault (codes "BagIt-Version: 1.1" ++ 10 ∷ codes "Tag-File-Character-Encoding: Latin-1") ≡ Some UnsupportedVersion
unfolding lines is_utf8 chars lib.Utf8.encode
version_first = refl

-- a value with a line that continues it, after a line of blanks
continues : info_of (codes "Source: x" ++ 10 ∷ codes "Note : a " ++ 10 ∷ 32 ∷ 10 ∷ codes "   b" ++ 10 ∷ []) ≡ Ok (record { label = codes "Source"; value = codes "x" } ∷ record { label = codes "Note"; value = codes "a " ++ 10 ∷ codes "b" } ∷ [])
unfolding lines is_utf8 chars lib.Utf8.encode info_of pairs_from add_info_line
continues = refl

continues_nothing : info_of (10 ∷ codes " Note: a") ≡ Err (StrayContinuation 2)
unfolding lines is_utf8 chars lib.Utf8.encode info_of pairs_from add_info_line
continues_nothing = refl

is_its_form : set_text bag ≡ text
unfolding text bag declaration manifest digits
is_its_form = refl

is_read : set_of text ≡ Ok bag
unfolding text bag declaration manifest set_of literal_at digits_at number_at header_at end_or_head_at file_at entry_at files_at is_utf8 chars lib.Utf8.encode
is_read = refl

-- a file in a file, with another path between them
clash : set_of (
    codes "BAGSET 1" ++ 10 ∷ []
    ++ codes "FILE 6 0" ++ 10 ∷ [] ++ codes "data/a" ++ 10 ∷ []
    ++ codes "FILE 7 0" ++ 10 ∷ [] ++ codes "data/a!" ++ 10 ∷ []
    ++ codes "FILE 8 0" ++ 10 ∷ [] ++ codes "data/a/b" ++ 10 ∷ []
    ++ codes "END" ++ 10 ∷ []) ≡ Err PathClash
unfolding set_of literal_at digits_at number_at header_at end_or_head_at file_at entry_at files_at is_utf8 chars lib.Utf8.encode
clash = refl

-- one spelled path in the two versions, and a digit in the other case
tells_apart : (decode V1_0 (codes "data/a%250Ab") ≡ codes "data/a%0Ab") × (decode V0_97 (codes "data/a%250Ab") ≡ codes "data/a%250Ab") × (decode V0_97 (codes "a%0ab") ≡ 97 ∷ 10 ∷ 98 ∷ [])
unfolding decode
tells_apart = (refl, refl, refl)

lists_twice : manifest_of V1_0 Sha256 (manifest ++ manifest) ≡ Err (ListedTwice 2)
unfolding manifest manifest_of entries_of add_line_of entry_of decode lines decode_pairs is_utf8 chars lib.Utf8.encode
lists_twice = refl
