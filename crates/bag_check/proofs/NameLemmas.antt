-- The names of manifests: what computing gives is what the definitions say.
use Rattle.bag_check.proofs.Common.{sym, some_if, ◌≡◌, ℕ, ◌+◌, ◌-◌, ◌<◌, Bool, true, cond, not, ◌&&◌, nat_lt as ltb, List, [], ◌∷◌, ◌++◌, length, take, drop, slice_index_or as get_or, refl, ap, subst, ◌∙◌, arith, append_assoc, length-append, Option, Some, None, bytes_eq, eqb as nat_eq, codes, ◌≢◌, list_any, starts_with, ends_with, same_Some, false≢true, and_parts, and_from, ltb-true, lt-ltb, not-true, not_from_false, Decides-eqb, take-append-drop, take-take, take_at, drop_at, length-take-le, length-drop, bytes_eq-Decides, starts_is, ends_is, Algorithm, Kind, Payload, Tag, IsTop, stem, IsManifestName, alg_after, or_tag, manifest_name, is_kind, is_found_of, is_manifest_of, word_of, algorithm_named, Sha256, Sha512}
use Rattle.bag_text.proofs.CaseLemmas.{by_Bool, by_Option}

-- ---- what stands between the front and `.txt`

-- the end of each manifest's name
abbrev dot_txt : List ℕ
dot_txt = codes ".txt"

-- the name is the front, ALG and `.txt`
record IsBehind (front name alg : List ℕ) : Type 0 where
  is : name ≡ front ++ alg ++ dot_txt
  some : alg ≢ []
  top : IsTop name

-- what stands between a front and the last four bytes
abbrev alg_in : List ℕ → List ℕ → List ℕ
alg_in front name = drop (length front) (take (length name - 4) name)

-- the tests of a name
abbrev is_behind : List ℕ → List ℕ → Bool
is_behind front name = starts_with nat_eq name front && ends_with nat_eq name dot_txt && ltb (length front + 4) (length name) && not (list_any (λ b. nat_eq b 47) name)

-- a name that passes the tests has ALG between
alg_is : (front name : List ℕ) → is_behind front name ≡ true → IsBehind front name (alg_in front name)
alg_is front name e =
    let one = and_parts (starts_with nat_eq name front && ends_with nat_eq name dot_txt && ltb (length front + 4) (length name)) _ e in
    let two = and_parts (starts_with nat_eq name front && ends_with nat_eq name dot_txt) _ one.0 in
    let three = and_parts (starts_with nat_eq name front) (ends_with nat_eq name dot_txt) two.0 in
    let long = ltb-true (length front + 4) (length name) two.1 in
    let begins : front ≡ take (length front) name = (bytes_eq-Decides front (take (length front) name)).0 three.0 in
    let ends = (ends_is Decides-eqb name dot_txt (ends_with nat_eq name dot_txt) refl).0 three.1 in
    let within : take (length front) (take (length name - 4) name) ≡ front = take-take (length front) (length name - 4) name (omega (arith, long)) ∙ sym begins in
    let whole : take (length name - 4) name ≡ front ++ alg_in front name =
    sym (take-append-drop (length front) (take (length name - 4) name)) ∙ ap (λ (t : List ℕ). t ++ alg_in front name) within in
    record {
      is = ends ∙ ap (λ (t : List ℕ). t ++ dot_txt) whole;
      some = λ none. absurd (omega (arith, long, sym (length-drop (length front) (take (length name - 4) name)) ∙ ap length none, length-take-le (length name - 4) name (omega arith)));
      top = not-true (list_any (λ b. nat_eq b 47) name) one.1;
    }

-- a name with ALG between passes the tests
alg_again : (front name alg : List ℕ) → IsBehind front name alg → (is_behind front name ≡ true) × (alg_in front name ≡ alg)
alg_again front name alg b =
    let size : length name ≡ length (front ++ alg) + 4 = ap length b.is ∙ length-append (front ++ alg) dot_txt in
    let sizes : length (front ++ alg) ≡ length front + length alg = length-append front alg in
    let begins = (starts_is Decides-eqb name front (starts_with nat_eq name front) refl).1 (alg ++ dot_txt) (b.is ∙ append_assoc front alg dot_txt) in
    let ends = (ends_is Decides-eqb name dot_txt (ends_with nat_eq name dot_txt) refl).1 (front ++ alg) b.is in
    let long : length front + 4 < length name = omega (arith, size, sizes, some_length alg b.some) in
    let cut : take (length name - 4) name ≡ front ++ alg = ap (λ (t : List ℕ). take (length name - 4) t) b.is ∙ take_at (front ++ alg) dot_txt (length name - 4) (omega (arith, size)) in (
      and_from (starts_with nat_eq name front && ends_with nat_eq name dot_txt && ltb (length front + 4) (length name)) (not (list_any (λ b. nat_eq b 47) name))
          (and_from (starts_with nat_eq name front && ends_with nat_eq name dot_txt) (ltb (length front + 4) (length name))
          (and_from (starts_with nat_eq name front) (ends_with nat_eq name dot_txt) begins ends) (lt-ltb (length front + 4) (length name) long))
          (not_from_false (list_any (λ b. nat_eq b 47) name) b.top),
      ap (drop (length front)) cut ∙ drop_at front alg (length front) refl,
    )
  where
    some_length : (xs : List ℕ) → xs ≢ [] → 0 < length xs
    some_length [] h = absurd (h refl)
    some_length (x ∷ xs) h = omega arith

-- what is found after a front is ALG
behind_is : (front name alg : List ℕ) → alg_after front name ≡ Some alg → IsBehind front name alg
behind_is front name alg e =
    let behind = some_if (is_behind front name) (Some (alg_in front name)) alg e in
    subst (IsBehind front name) (same_Some (alg_in front name) alg behind.1) (alg_is front name behind.0)

-- ALG is found after its front
behind_again : (front name alg : List ℕ) → IsBehind front name alg → alg_after front name ≡ Some alg
behind_again front name alg b =
    let again = alg_again front name alg b in
    ap (λ (x : Bool). cond x (Some (alg_in front name)) None) again.0 ∙ ap (λ (x : List ℕ). Some x) again.1

-- ---- the kind and ALG of a name

-- a name with ALG after the stem is a manifest's
behind_name : (kind : Kind) (alg name : List ℕ) → IsBehind (stem kind) name alg → IsManifestName kind alg name
behind_name kind alg name b = record { is = b.is; some = b.some; top = b.top }

-- a manifest's name has ALG after the stem
name_behind : (kind : Kind) (alg name : List ℕ) → IsManifestName kind alg name → IsBehind (stem kind) name alg
name_behind kind alg name n = record { is = n.is; some = n.some; top = n.top }

-- what is found of a name is so
pub name_is : (name : List ℕ) (kind : Kind) (alg : List ℕ) → manifest_name name ≡ Some (kind, alg) → IsManifestName kind alg name
name_is name kind alg e = by_Option (alg_after (stem Payload) name)
    (λ none. by_Option (alg_after (stem Tag) name)
    (λ other. let wrong = rw (none, other) at e in absurd cc)
    (λ found is.
    let same : (Tag, found) ≡ (kind, alg) = same_Some (Tag, found) (kind, alg) (rw (none, is) at e) in
    subst (λ (x : Kind × List ℕ). IsManifestName x.0 x.1 name) same (behind_name Tag found name (behind_is (stem Tag) name found is))))
    (λ found is.
    let same : (Payload, found) ≡ (kind, alg) = same_Some (Payload, found) (kind, alg) (rw is at e) in
    subst (λ (x : Kind × List ℕ). IsManifestName x.0 x.1 name) same (behind_name Payload found name (behind_is (stem Payload) name found is)))

-- no name is of both kinds: one begins with `m`, the other with `t`
not_both : (name one two : List ℕ) → IsManifestName Payload one name → IsManifestName Tag two name → ⊥
not_both name one two p t =
    let first : get_or name 0 0 ≡ 109 = ap (λ (x : List ℕ). get_or x 0 0) p.is in
    let also : get_or name 0 0 ≡ 116 = ap (λ (x : List ℕ). get_or x 0 0) t.is in
    absurd (omega (arith, first, also))

-- a manifest's name is found
pub name_again : (name : List ℕ) (kind : Kind) (alg : List ℕ) → IsManifestName kind alg name → manifest_name name ≡ Some (kind, alg)
name_again name Payload alg n = ap (λ (x : Option (List ℕ)). or_tag x (alg_after (stem Tag) name)) (behind_again (stem Payload) name alg (name_behind Payload alg name n))
name_again name Tag alg n =
    let no_payload : alg_after (stem Payload) name ≡ None = by_Option (alg_after (stem Payload) name)
    (λ e. e)
    (λ found e. absurd (not_both name found alg (behind_name Payload found name (behind_is (stem Payload) name found e)) n)) in
    ap (λ (x : Option (List ℕ)). or_tag x (alg_after (stem Tag) name)) no_payload ∙ ap (or_tag None) (behind_again (stem Tag) name alg (name_behind Tag alg name n))

-- where nothing is found there is no manifest
pub no_name : (name : List ℕ) → manifest_name name ≡ None → (kind : Kind) (alg : List ℕ) → IsManifestName kind alg name → ⊥
no_name name e kind alg n = let wrong = sym e ∙ name_again name kind alg n in absurd cc

-- a name has one kind and one ALG
pub one_name : (name : List ℕ) (k l : Kind) (one two : List ℕ) → IsManifestName k one name → IsManifestName l two name → (k ≡ l) × (one ≡ two)
one_name name k l one two n m =
    let same : (k, one) ≡ (l, two) = same_Some (k, one) (l, two) (sym (name_again name k one n) ∙ name_again name l two m) in
    (ap (λ (x : Kind × List ℕ). x.0) same, ap (λ (x : Kind × List ℕ). x.1) same)

-- ---- the names of manifests of one kind

-- kinds that pass for one are one
pub kind_is : (k l : Kind) → is_kind k l ≡ true → l ≡ k
kind_is Payload Payload e = refl
kind_is Payload Tag e = absurd (false≢true e)
kind_is Tag Payload e = absurd (false≢true e)
kind_is Tag Tag e = refl

-- a kind passes for itself
same_kind : (k : Kind) → is_kind k k ≡ true
same_kind Payload = refl
same_kind Tag = refl

-- kinds that are one pass for one
pub kind_again : (k l : Kind) → l ≡ k → is_kind k l ≡ true
kind_again k l e = ap (is_kind k) e ∙ same_kind k

-- a path that passes the test is the name of a manifest of this kind
pub manifest_of_is : (kind : Kind) (path : List ℕ) → is_manifest_of kind path ≡ true → (alg : List ℕ) × IsManifestName kind alg path
manifest_of_is kind path e = by_Option (manifest_name path)
    (λ is. let wrong = rw is at e in absurd cc)
    (λ found is. (found.1, subst (λ (k : Kind). IsManifestName k found.1 path) (kind_is kind found.0 (rw is at e)) (name_is path found.0 found.1 is)))

-- the name of a manifest of this kind passes the test
pub manifest_of_again : (kind : Kind) (path alg : List ℕ) → IsManifestName kind alg path → is_manifest_of kind path ≡ true
manifest_of_again kind path alg n = ap (is_found_of kind) (name_again path kind alg n) ∙ same_kind kind

-- ---- algorithms

-- an algorithm is found by its word
pub algorithm_again : (a : Algorithm) → algorithm_named (word_of a) ≡ Some a
algorithm_again Sha256 = refl
algorithm_again Sha512 = refl

-- an algorithm that is found has that word
pub algorithm_is : (alg : List ℕ) (a : Algorithm) → algorithm_named alg ≡ Some a → alg ≡ word_of a
algorithm_is alg a e = by_Bool (bytes_eq alg (word_of Sha256))
    (λ is. (bytes_eq-Decides alg (word_of Sha256)).0 is ∙ ap word_of (same_Some Sha256 a (rw is at e)))
    (λ other.
    let read = some_if (bytes_eq alg (word_of Sha512)) (Some Sha512) a (rw other at e) in
    (bytes_eq-Decides alg (word_of Sha512)).0 read.0 ∙ ap word_of (same_Some Sha512 a read.1))

-- where none is found it is no algorithm's word
pub no_algorithm : (alg : List ℕ) → algorithm_named alg ≡ None → (a : Algorithm) → alg ≢ word_of a
no_algorithm alg e a is = let wrong = sym e ∙ ap algorithm_named is ∙ algorithm_again a in absurd cc

-- the words differ
pub one_algorithm : (a b : Algorithm) → word_of a ≡ word_of b → a ≡ b
one_algorithm a b e = same_Some a b (sym (algorithm_again a) ∙ ap algorithm_named e ∙ algorithm_again b)
