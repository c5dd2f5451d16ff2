-- The SHA-256 of each file of a bag, and what manifests list of it.
use Rattle.std.specs.Prelude.{◌≡◌, ℕ, List, Contains, Option, Some, None, map}
use Rattle.sha2.specs.Sha256.{sha256}
use Rattle.bag_text.specs.TransferForm.{File}
use Rattle.bag_text.specs.ManifestReading.{Entries, Entry, listing_at}
use Rattle.bag_text.specs.declared.checksum.Checksum.{Checksum}
use Rattle.bag_text.specs.declared.checksum.Checksum.TheVariants.{Sha256, Sha512}
use Rattle.bag_text.specs.declared.listing.Manifest.{Manifest}
use Rattle.bag_check.specs.Judging.{Listed}

-- the SHA-256 of each file
abbrev pub digests_of : List File → List (List ℕ)
digests_of files = map (λ f. sha256 f.content) files

-- the SHA-256 that a checksum is
abbrev pub sha256_in : Checksum → Option (List ℕ)
sha256_in (Sha256 digest) = Some digest
sha256_in (Sha512 digest) = None

-- the SHA-256 that a manifest lists of the path
abbrev pub listed_sha256 : Manifest → List ℕ → Option (List ℕ)
listed_sha256 m path = elim (listing_at path m) [ Some listing ↦ sha256_in listing.checksum | None ↦ None ]

-- the entries list the path with this SHA-256
abbrev pub ListsSha256 : Entries → List ℕ → List ℕ → Type 0
ListsSha256 entries path digest = (entry : Entry) × Contains entries (path, entry) × (entry.checksum ≡ Sha256 digest)

-- each SHA-256 that the manifests list of the file is that of its content
abbrev pub AreRightOf : List Listed → File → Type 0
AreRightOf ls f = (l : Listed) (digest : List ℕ) → Contains ls l → ListsSha256 l.entries f.path digest → digest ≡ sha256 f.content
