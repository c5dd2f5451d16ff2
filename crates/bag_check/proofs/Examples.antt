-- The definitions at small names, values and bags.
use Rattle.bag_check.proofs.Common.{◌≡◌, [], ◌∷◌, ◌++◌, refl, arith, codes, Some, None, Payload, Tag, Missing, manifest_name, NamesCounts, oxums_of, counts_of, NoDeclaration, NoPayloadManifest, Breaks, judge, manifests_in, Err, digits, percent_encode_byte, printed_text, fault_text}
use Rattle.std.specs.Str.{is_utf8, chars}
use Rattle.bag_text.specs.Lines.{lines}

is_a_manifest : (manifest_name (codes "manifest-sha256.txt") ≡ Some (Payload, codes "sha256")) × (manifest_name (codes "tagmanifest-md5.txt") ≡ Some (Tag, codes "md5"))
is_a_manifest = (refl, refl)

-- without an algorithm, with a capital, in a folder, and with more after
is_no_manifest :
    (manifest_name (codes "manifest-.txt") ≡ None) × (manifest_name (codes "Manifest-md5.txt") ≡ None)
    × (manifest_name (codes "meta/manifest-md5.txt") ≡ None) × (manifest_name (codes "manifest-sha256.txt.bak") ≡ None)
is_no_manifest = (refl, refl, refl, refl)

-- an LF, a blank, `%` and a byte above 126
prints_escaped : printed_text (codes "data/" ++ 10 ∷ 32 ∷ 37 ∷ 233 ∷ []) ≡ codes "data/%0A%20%25%E9"
unfolding percent_encode_byte
prints_escaped = refl

prints_a_breach : fault_text (Breaks Missing (codes "manifest-sha256.txt") (codes "data/a%0Ab")) ≡ codes "B11 manifest-sha256.txt data/a%250Ab"
unfolding digits percent_encode_byte
prints_a_breach = refl

names_counts : NamesCounts (codes "3.1") 3 1
names_counts = (codes "3", codes "1", [], refl, refl, record { some = omega arith; few = omega arith; all = refl; is = refl }, record { some = omega arith; few = omega arith; all = refl; is = refl })

-- zeros before the number, and blanks after
names_the_same : NamesCounts (codes "003.01  ") 3 1
names_the_same = (codes "003", codes "01", codes "  ", refl, refl, record { some = omega arith; few = omega arith; all = refl; is = refl }, record { some = omega arith; few = omega arith; all = refl; is = refl })

-- what is read of a value: 20 digits at most, and nothing after but blanks
reads_counts :
    (counts_of (codes "003.01  ") ≡ Some (3, 1)) × (counts_of (codes "18446744073709551619.1") ≡ Some (18446744073709551619, 1))
    × (counts_of (codes "000000000000000000003.1") ≡ None) × (counts_of (codes "3.1" ++ 10 ∷ []) ≡ None) × (counts_of (codes "3.") ≡ None)
reads_counts = (refl, refl, refl, refl, refl)

-- a label in any case
counts_among_pairs : oxums_of (record { label = codes "payload-OXUM"; value = codes "3.1" } ∷ record { label = codes "Source"; value = codes "4.1" } ∷ []) ≡ codes "3.1" ∷ []
counts_among_pairs = refl

-- a bag without a declaration, and one with nothing else
judges :
    (judge [] ≡ Err NoDeclaration)
    × (judge (record { path = codes "bagit.txt"; content = codes "BagIt-Version: 1.0" ++ 10 ∷ codes "Tag-File-Character-Encoding: UTF-8" ++ 10 ∷ [] } ∷ []) ≡ Err NoPayloadManifest)
unfolding manifests_in lines is_utf8 chars lib.Utf8.encode
judges = (refl, refl)
