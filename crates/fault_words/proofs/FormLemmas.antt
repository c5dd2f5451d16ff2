-- Paths that differ by their normal forms alone.
use Rattle.fault_words.proofs.Common.{◌≡◌, ℕ, Bool, false, List, ap, bytes_eq, chars, encode_utf8_all, encodes_same, differs_by_form}
use Rattle.std.specs.Cmp.{both_ways}
use Rattle.std.proofs.lemmas.Slice.Eq.{bytes_eq-Decides}
use Rattle.unicode_normalization.specs.Forms.{nfc}

-- texts are alike exactly where their characters are
alike : (cs ds : List ℕ) → bytes_eq (encode_utf8_all cs) (encode_utf8_all ds) ≡ bytes_eq cs ds
alike cs ds =
    both_ways (bytes_eq (encode_utf8_all cs) (encode_utf8_all ds)) (bytes_eq cs ds)
    (λ e. (bytes_eq-Decides cs ds).1 (encodes_same cs ds ((bytes_eq-Decides (encode_utf8_all cs) (encode_utf8_all ds)).0 e)))
    (λ e. (bytes_eq-Decides (encode_utf8_all cs) (encode_utf8_all ds)).1 (ap encode_utf8_all ((bytes_eq-Decides cs ds).0 e)))

-- what comparing the texts in NFC says of paths that are other bytes
pub compared : (path other one two : List ℕ) (result : Bool) → bytes_eq path other ≡ false → one ≡ encode_utf8_all (nfc (chars path)) → two ≡ encode_utf8_all (nfc (chars other))
    → result ≡ bytes_eq one two → result ≡ differs_by_form path other
compared path other one two result apart is is_too says = rw (says, is, is_too, apart) (alike (nfc (chars path)) (nfc (chars other)))
