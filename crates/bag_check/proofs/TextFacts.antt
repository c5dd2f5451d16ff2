-- What is used of the manifests in a bag: what they list, and that it ascends.
use Rattle.bag_check.proofs.FirstLemmas.{◌≡◌, ℕ, true, List, [], ◌∷◌, map, Ok, AllByRecursion, Version, Algorithm, comes_before, Lists, checksum_of, AscendingPaths, Entry, Entries, manifest_of, Has, contains_has, has_contains, Up, Ascending}
use Rattle.bag_text.proofs.ManifestLaws as manifest

-- what a text lists is an entry
pub lists_there : (v : Version) (a : Algorithm) (text : List ℕ) (es : Entries) (path checksum : List ℕ) → manifest_of v a text ≡ Ok es → Lists v a text path checksum → (e : Entry) × Has es (path, e) × (e.checksum ≡ checksum_of a checksum)
lists_there v a text es path checksum read lists =
    let found = (manifest.lists_iff v a text es path checksum read).0 lists in
    (found.0, contains_has es (path, found.0) found.1, found.2)

-- an entry is listed by the text
pub lists_back : (v : Version) (a : Algorithm) (text : List ℕ) (es : Entries) (path : List ℕ) (e : Entry) → manifest_of v a text ≡ Ok es → Has es (path, e) → (checksum : List ℕ) × (e.checksum ≡ checksum_of a checksum) × Lists v a text path checksum
lists_back v a text es path e read has =
    let contains = has_contains es (path, e) has in
    let line = manifest.entry_is_listed v a text es path e read contains in
    (line.0, line.1, (manifest.lists_iff v a text es path line.0 read).1 (e, contains, line.1))

-- paths of which each comes before all that follow ascend
up_from : (before : List ℕ) (ps : List (List ℕ)) → AllByRecursion (λ later. comes_before before later ≡ true) ps → AscendingPaths ps → Up before ps
up_from before [] all up = tt
up_from before (p ∷ ps) all up = (all.0, up_from p ps up.0 up.1)

-- the same, whatever the first is
ascending_from : (ps : List (List ℕ)) → AscendingPaths ps → Ascending ps
ascending_from [] up = tt
ascending_from (p ∷ ps) up = up_from p ps up.0 up.1

-- the entries' paths ascend
pub ascend_is : (v : Version) (a : Algorithm) (text : List ℕ) (es : Entries) → manifest_of v a text ≡ Ok es → Ascending (map (λ e. e.0) es)
ascend_is v a text es read = ascending_from (map (λ e. e.0) es) (manifest.entries_ascend v a text es read)
