-- The digest of a file beside its checksum (RFC 8493, section 3; FIPS 180-4).
use Rattle.std.specs.Prelude.{◌≡◌, ℕ, List, Bool, bytes_eq}
use Rattle.sha2.specs.Sha256.{sha256}
use Rattle.sha2.specs.Sha512.{sha512}
use Rattle.bag_text.specs.declared.checksum.Checksum.{Checksum}
use Rattle.bag_text.specs.declared.checksum.Checksum.TheVariants.{Sha256, Sha512}

abbrev pub Matches : List ℕ → Checksum → Type 0
Matches bytes (Sha256 checksum) = sha256 bytes ≡ checksum
Matches bytes (Sha512 checksum) = sha512 bytes ≡ checksum

-- the same by computing
abbrev pub matches_of : List ℕ → Checksum → Bool
matches_of bytes (Sha256 checksum) = bytes_eq (sha256 bytes) checksum
matches_of bytes (Sha512 checksum) = bytes_eq (sha512 bytes) checksum
