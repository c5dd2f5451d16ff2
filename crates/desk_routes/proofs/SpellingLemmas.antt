-- A path names a resource where it is spelled so, and only there.
use Rattle.desk_routes.proofs.Common.{◌≡◌, ℕ, List, [], ◌∷◌, ◌++◌, length, drop, take, Option, Some, None, true, false, refl, sym, ap, ◌∙◌, subst, arith, nat_eq, codes, starts_with, option_or, bytes_decides, take-append-drop, Parts, after_prefix, nothing_more, cut, by_part, no_more, last_part, all_of, under_deposit, under_deposits, parts_of, class, collection, deposit, holds_of_deposit, bag, audit, hold, file, deposits, holds, due, ◌<◌, ◌==◌, ◌&&◌, decimal, option_map, option_and_then, leb as nat_le, list_all, and_parts, nat_tests, with_byte, name_of, number_of, file_path_of, resource_by_parts, resource_named, Resource, path_of, IsResource, IsShortNumber, SpellsResource, has_slash}
use Rattle.desk_routes.proofs.PathLemmas.{IsPart, CutSays, cut-says, not_slash}
use Rattle.office_core.proofs.OptionLemmas.{by_Bool, option_map_some}
use Rattle.office_core.specs.Bounds.{max_name}
use Rattle.office_core.specs.Names.{is_name, is_name_byte, IsName}
use Rattle.desk_routes.specs.declared.resource.Resource.TheVariants as resources
use Rattle.desk_routes.proofs.NumberLemmas.{number-written, number-read, number-part}
use Rattle.std.proofs.lemmas.Bool.{false_from_ne_true}
use Rattle.std.proofs.lemmas.Option.{cond_some, option_and_then_some}

-- ---- how parts are spelled

abbrev pub path_by_parts : Parts → List ℕ
path_by_parts (class name) = codes "/classes/" ++ name
path_by_parts (collection name) = codes "/collections/" ++ name
path_by_parts (audit number) = codes "/deposits/" ++ (number ++ codes "/audit")
path_by_parts (bag number) = codes "/deposits/" ++ (number ++ codes "/bag")
path_by_parts (file number path) = codes "/deposits/" ++ (number ++ (codes "/files/" ++ path))
path_by_parts (holds_of_deposit number) = codes "/deposits/" ++ (number ++ codes "/holds")
path_by_parts (deposit number) = codes "/deposits/" ++ number
path_by_parts deposits = codes "/deposits"
path_by_parts due = codes "/due"
path_by_parts (hold number) = codes "/holds/" ++ number
path_by_parts holds = codes "/holds"

abbrev pub AreParts : Parts → Type 0
AreParts (class name) = IsPart name
AreParts (collection name) = IsPart name
AreParts (audit number) = IsPart number
AreParts (bag number) = IsPart number
AreParts (file number path) = IsPart number × (0 < length path)
AreParts (holds_of_deposit number) = IsPart number
AreParts (deposit number) = IsPart number
AreParts (hold number) = IsPart number
AreParts _ = Unit {0}

-- the path spells these parts
abbrev pub SpellsParts : List ℕ → Parts → Type 0
SpellsParts path parts = (path ≡ path_by_parts parts) × AreParts parts

-- ---- a path that has parts is their spelling

or-gives : (P : Parts → Type 0) (a b : Option Parts) (parts : Parts) → (a ≡ Some parts → P parts) → (b ≡ Some parts → P parts) → option_or a b ≡ Some parts → P parts
or-gives P None b parts f g e = g e
or-gives P (Some x) b parts f g e = f e

starts-gives : (w path : List ℕ) → starts_with nat_eq path w ≡ true → path ≡ w ++ drop (length w) path
starts-gives w path e = sym (take-append-drop (length w) path) ∙ ap (λ l. l ++ drop (length w) path) (sym ((bytes_decides w (take (length w) path)).0 e))

after-gives : (P : Parts → Type 0) (w path : List ℕ) (f : List ℕ → Option Parts) (parts : Parts) → ((rest : List ℕ) → path ≡ w ++ rest → f rest ≡ Some parts → P parts) → after_prefix w f path ≡ Some parts → P parts
after-gives P w path f parts g e =
    by_Bool (starts_with nat_eq path w) (λ begins. g (drop (length w) path) (starts-gives w path begins) (rw begins at e)) (λ other. absurd (let q = rw other at e in cc))

nothing-gives : (x parts : Parts) (rest : List ℕ) → nothing_more x rest ≡ Some parts → (rest ≡ []) × (x ≡ parts)
nothing-gives x parts [] e = (refl, let q = e in cc)
nothing-gives x parts (b ∷ rest) e = absurd (let q = e in cc)

part-gives : (P : Parts → Type 0) (last : List ℕ → Option Parts) (more : List ℕ → List ℕ → Option Parts) (path : List ℕ) (parts : Parts)
    → ((part : List ℕ) → path ≡ part → IsPart part → last part ≡ Some parts → P parts) → ((part rest : List ℕ) → path ≡ part ++ 47 ∷ rest → IsPart part → more part rest ≡ Some parts → P parts)
    → by_part last more (cut path) ≡ Some parts → P parts
part-gives P last more path parts f g e = by (cut path) (cut-says path) e
  where
    by : (pair : List ℕ × Option (List ℕ)) → CutSays path pair → by_part last more pair ≡ Some parts → P parts
    by ([], rest) h e = absurd (let q = e in cc)
    by (b ∷ part, None) h e = f (b ∷ part) (sym h.0) (omega arith, ap has_slash h.0 ∙ h.2) e
    by (b ∷ part, Some rest) h e = g (b ∷ part) rest h.0 (omega arith, h.3) e

-- a name at the end
last-gives : (w path : List ℕ) (f : List ℕ → Parts) (parts : Parts) → ((part : List ℕ) → path_by_parts (f part) ≡ w ++ part) → ((part : List ℕ) → IsPart part → AreParts (f part))
    → (rest : List ℕ) → path ≡ w ++ rest → last_part f rest ≡ Some parts → SpellsParts path parts
last-gives w path f parts spelled good rest e said = part-gives (SpellsParts path) (λ part. Some (f part)) no_more rest parts
    (λ part p h s. let same : f part ≡ parts = cc in subst (SpellsParts path) same (e ∙ ap (λ l. w ++ l) p ∙ sym (spelled part), good part h))
    (λ part more p h s. absurd (let q = s in cc)) said

end-gives : (w path : List ℕ) (x parts : Parts) → path_by_parts x ≡ w ++ [] → AreParts x → (rest : List ℕ) → path ≡ w ++ rest → nothing_more x rest ≡ Some parts → SpellsParts path parts
end-gives w path x parts spelled good rest e said =
    let h = nothing-gives x parts rest said in
    subst (SpellsParts path) h.1 (e ∙ ap (λ l. w ++ l) h.0 ∙ sym spelled, good)

file_is : (number path : List ℕ) → path_by_parts (file number path) ≡ codes "/deposits/" ++ (number ++ (47 ∷ (codes "files/" ++ path)))
file_is number path = refl

-- what follows a number
under-gives : (path number rest : List ℕ) (parts : Parts) → path ≡ codes "/deposits/" ++ number ++ 47 ∷ rest → IsPart number → under_deposit number rest ≡ Some parts → SpellsParts path parts
under-gives path number rest parts e good said = or-gives (SpellsParts path) _ _ parts (after-gives (SpellsParts path) (codes "audit") rest (nothing_more (audit number)) parts (ending (codes "audit") (audit number) refl good))
    (or-gives (SpellsParts path) _ _ parts (after-gives (SpellsParts path) (codes "bag") rest (nothing_more (bag number)) parts (ending (codes "bag") (bag number) refl good))
    (or-gives (SpellsParts path) _ _ parts (after-gives (SpellsParts path) (codes "files/") rest (all_of (file number)) parts files)
    (after-gives (SpellsParts path) (codes "holds") rest (nothing_more (holds_of_deposit number)) parts (ending (codes "holds") (holds_of_deposit number) refl good)))) said
  where
    ending : (w : List ℕ) (x : Parts) → path_by_parts x ≡ codes "/deposits/" ++ (number ++ (47 ∷ (w ++ []))) → AreParts x → (after_it : List ℕ) → rest ≡ w ++ after_it → nothing_more x after_it ≡ Some parts → SpellsParts path parts
    ending w x spelled fine after_it r s =
        let h = nothing-gives x parts after_it s in
        subst (SpellsParts path) h.1 (e ∙ ap (λ l. codes "/deposits/" ++ number ++ 47 ∷ l) (r ∙ ap (λ l. w ++ l) h.0) ∙ sym spelled, fine)

    files : (after_it : List ℕ) → rest ≡ codes "files/" ++ after_it → all_of (file number) after_it ≡ Some parts → SpellsParts path parts
    files [] r s = absurd (let q = s in cc)
    files (b ∷ l) r s = let same : file number (b ∷ l) ≡ parts = cc in subst (SpellsParts path) same (e ∙ ap (λ z. codes "/deposits/" ++ (number ++ (47 ∷ z))) r ∙ sym (file_is number (b ∷ l)), (good, omega arith))

of-gives : (path rest : List ℕ) (parts : Parts) → path ≡ codes "/deposits/" ++ rest → under_deposits rest ≡ Some parts → SpellsParts path parts
of-gives path rest parts e said = part-gives (SpellsParts path) (λ number. Some (deposit number)) under_deposit rest parts
    (λ part p h s. let same : deposit part ≡ parts = cc in subst (SpellsParts path) same (e ∙ ap (λ l. codes "/deposits/" ++ l) p, h))
    (λ part more p h s. under-gives path part more parts (e ∙ ap (λ l. codes "/deposits/" ++ l) p) h s) said

pub spelled : (path : List ℕ) (parts : Parts) → parts_of path ≡ Some parts → SpellsParts path parts
spelled path parts said =
    or-gives (SpellsParts path) _ _ parts (after-gives (SpellsParts path) (codes "/classes/") path (last_part class) parts (last-gives (codes "/classes/") path class parts (λ p. refl) (λ p h. h)))
    (or-gives (SpellsParts path) _ _ parts (after-gives (SpellsParts path) (codes "/collections/") path (last_part collection) parts (last-gives (codes "/collections/") path collection parts (λ p. refl) (λ p h. h)))
    (or-gives (SpellsParts path) _ _ parts (after-gives (SpellsParts path) (codes "/deposits/") path under_deposits parts (λ rest e s. of-gives path rest parts e s))
    (or-gives (SpellsParts path) _ _ parts (after-gives (SpellsParts path) (codes "/deposits") path (nothing_more deposits) parts (end-gives (codes "/deposits") path deposits parts refl tt))
    (or-gives (SpellsParts path) _ _ parts (after-gives (SpellsParts path) (codes "/due") path (nothing_more due) parts (end-gives (codes "/due") path due parts refl tt))
    (or-gives (SpellsParts path) _ _ parts (after-gives (SpellsParts path) (codes "/holds/") path (last_part hold) parts (last-gives (codes "/holds/") path hold parts (λ p. refl) (λ p h. h)))
    (after-gives (SpellsParts path) (codes "/holds") path (nothing_more holds) parts (end-gives (codes "/holds") path holds parts refl tt))))))) said

-- ---- parts are read from their spelling

-- a text before a slash, and what follows it
abbrev pub Cut : Type 0
Cut = List ℕ × Option (List ℕ)

cut-last : (part : List ℕ) → has_slash part ≡ false → ◌≡◌ {A = Cut} (cut part) (part, None)
cut-last [] h = refl
cut-last (b ∷ part) h = let p = not_slash b (has_slash part) h in rw p.0 (ap (with_byte b) (cut-last part p.1))

cut-more : (part rest : List ℕ) → has_slash part ≡ false → ◌≡◌ {A = Cut} (cut (part ++ 47 ∷ rest)) (part, Some rest)
cut-more [] rest h = refl
cut-more (b ∷ part) rest h = let p = not_slash b (has_slash part) h in rw p.0 (ap (with_byte b) (cut-more part rest p.1))

part-last : (last : List ℕ → Option Parts) (more : List ℕ → List ℕ → Option Parts) (part : List ℕ) → IsPart part → by_part last more (cut part) ≡ last part
part-last last more [] h = absurd (let s = h.0 in omega arith)
part-last last more (b ∷ part) h = ap (by_part last more) (cut-last (b ∷ part) h.1)

part-more : (last : List ℕ → Option Parts) (more : List ℕ → List ℕ → Option Parts) (part rest : List ℕ) → IsPart part → by_part last more (cut (part ++ 47 ∷ rest)) ≡ more part rest
part-more last more [] rest h = absurd (let s = h.0 in omega arith)
part-more last more (b ∷ part) rest h = ap (by_part last more) (cut-more (b ∷ part) rest h.1)

last-read : (f : List ℕ → Parts) (part : List ℕ) → IsPart part → last_part f part ≡ Some (f part)
last-read f part h = part-last (λ p. Some (f p)) no_more part h

under-read : (number rest : List ℕ) → IsPart number → under_deposits (number ++ 47 ∷ rest) ≡ under_deposit number rest
under-read number rest h = part-more (λ n. Some (deposit n)) under_deposit number rest h

file-read : (number path : List ℕ) → 0 < length path → under_deposit number (codes "files/" ++ path) ≡ Some (file number path)
file-read number [] some = absurd (omega arith)
file-read number (b ∷ path) some = refl

parts-read : (parts : Parts) → AreParts parts → parts_of (path_by_parts parts) ≡ Some parts
parts-read (class name) h = rw (last-read class name h) refl
parts-read (collection name) h = rw (last-read collection name h) refl
parts-read (audit number) h = rw (under-read number (codes "audit") h) refl
parts-read (bag number) h = rw (under-read number (codes "bag") h) refl
parts-read (file number path) h = rw (under-read number (codes "files/" ++ path) h.0, file-read number path h.1) refl
parts-read (holds_of_deposit number) h = rw (under-read number (codes "holds") h) refl
parts-read (deposit number) h = rw (part-last (λ n. Some (deposit n)) under_deposit number h) refl
parts-read deposits h = refl
parts-read due h = refl
parts-read (hold number) h = rw (last-read hold number h) refl
parts-read holds h = refl

-- ---- names

name_byte : (b : ℕ) → is_name_byte b ≡ true → (b == 47) ≡ false
name_byte b h = false_from_ne_true (b == 47) (λ e. let same : b ≡ 47 = grind (arith, nat_tests) in let z = rw same at h in cc)

name_slash : (name : List ℕ) → list_all is_name_byte name ≡ true → has_slash name ≡ false
name_slash [] h = refl
name_slash (b ∷ name) h =
    let f = and_parts (is_name_byte b) (list_all is_name_byte name) h in
    rw (name_byte b f.0) (name_slash name f.1)

name-part : (name : List ℕ) → IsName name → IsPart name
name-part name h =
    let f = and_parts (nat_le 1 (length name) && nat_le (length name) max_name) (list_all is_name_byte name) h in
    let g = and_parts (nat_le 1 (length name)) (nat_le (length name) max_name) f.0 in
    let some : nat_le 1 (length name) ≡ true = g.0 in
    (grind (arith, nat_tests), name_slash name f.1)

-- ---- what a path names

named : (f : List ℕ → Resource) (name : List ℕ) → IsName name → option_map f (name_of name) ≡ Some (f name)
named f name h = rw h refl

numbered : (f : ℕ → Resource) (number : ℕ) → IsShortNumber number → option_map f (number_of (decimal number)) ≡ Some (f number)
numbered f number h = rw (number-read number h) refl

whole_path : (path : List ℕ) → 0 < length path → file_path_of path ≡ Some path
whole_path path some = let is : nat_le 1 (length path) ≡ true = grind (arith, nat_tests) in rw is refl

read_by : (parts : Parts) (resource : Resource) → AreParts parts → resource_by_parts parts ≡ Some resource → resource_named (path_by_parts parts) ≡ Some resource
read_by parts resource h e = ap (option_and_then resource_by_parts) (parts-read parts h) ∙ e

resource-read : (resource : Resource) → IsResource resource → resource_named (path_of resource) ≡ Some resource
resource-read (resources.Class name) h = read_by (class name) (resources.Class name) (name-part name h) (named resources.Class name h)
resource-read (resources.Collection name) h = read_by (collection name) (resources.Collection name) (name-part name h) (named resources.Collection name h)
resource-read (resources.Deposit n) h = read_by (deposit (decimal n)) (resources.Deposit n) (number-part n h) (numbered resources.Deposit n h)
resource-read (resources.HoldsOfDeposit n) h = read_by (holds_of_deposit (decimal n)) (resources.HoldsOfDeposit n) (number-part n h) (numbered resources.HoldsOfDeposit n h)
resource-read (resources.Bag n) h = read_by (bag (decimal n)) (resources.Bag n) (number-part n h) (numbered resources.Bag n h)
resource-read (resources.File n path) h = read_by (file (decimal n) path) (resources.File n path) (number-part n h.0, h.1) (rw (number-read n h.0, whole_path path h.1) refl)
resource-read (resources.Audit n) h = read_by (audit (decimal n)) (resources.Audit n) (number-part n h) (numbered resources.Audit n h)
resource-read (resources.Hold n) h = read_by (hold (decimal n)) (resources.Hold n) (number-part n h) (numbered resources.Hold n h)
resource-read _ h = refl

pub spelling-read : (path : List ℕ) (resource : Resource) → SpellsResource path resource → resource_named path ≡ Some resource
spelling-read path resource h = ap resource_named h.0 ∙ resource-read resource h.1

by_name : (f : List ℕ → Resource) (name : List ℕ) (resource : Resource) → option_map f (name_of name) ≡ Some resource → (f name ≡ resource) × IsName name
by_name f name resource e = option_map_some f (name_of name) resource e (λ found is same. let named = cond_some (is_name name) name found is in (ap f named.1 ∙ same, named.0))

by_number : (f : ℕ → Resource) (text : List ℕ) (resource : Resource) → option_map f (number_of text) ≡ Some resource → (n : ℕ) × (f n ≡ resource) × (text ≡ decimal n) × IsShortNumber n
by_number f text resource e = option_map_some f (number_of text) resource e (λ n is same. let written = number-written text n is in (n, same, written.0, written.1))

-- a path whose parts are a name and numbers spells what they name
part_resource : (path : List ℕ) (parts : Parts) (resource : Resource) → SpellsParts path parts → resource_by_parts parts ≡ Some resource → SpellsResource path resource
part_resource path (class name) resource h e = let r = by_name resources.Class name resource e in subst (SpellsResource path) r.0 (h.0, r.1)
part_resource path (collection name) resource h e = let r = by_name resources.Collection name resource e in subst (SpellsResource path) r.0 (h.0, r.1)
part_resource path deposits resource h e = let same : resources.Deposits ≡ resource = cc in subst (SpellsResource path) same (h.0, tt)
part_resource path (deposit text) resource h e = let r = by_number resources.Deposit text resource e in subst (SpellsResource path) r.1 (h.0 ∙ ap (λ t. codes "/deposits/" ++ t) r.2, r.3)
part_resource path (holds_of_deposit text) resource h e = let r = by_number resources.HoldsOfDeposit text resource e in subst (SpellsResource path) r.1 (h.0 ∙ ap (λ t. codes "/deposits/" ++ (t ++ codes "/holds")) r.2, r.3)
part_resource path (bag text) resource h e = let r = by_number resources.Bag text resource e in subst (SpellsResource path) r.1 (h.0 ∙ ap (λ t. codes "/deposits/" ++ (t ++ codes "/bag")) r.2, r.3)
part_resource path (file text rest) resource h e =
    let whole = subst (λ found. option_and_then (λ n. option_map (resources.File n) found) (number_of text) ≡ Some resource) (whole_path rest h.1.1) e in
    let r = by_number (λ n. resources.File n rest) text resource whole in
    subst (SpellsResource path) r.1 (h.0 ∙ ap (λ t. codes "/deposits/" ++ (t ++ (codes "/files/" ++ rest))) r.2, (r.3, h.1.1))
part_resource path (audit text) resource h e = let r = by_number resources.Audit text resource e in subst (SpellsResource path) r.1 (h.0 ∙ ap (λ t. codes "/deposits/" ++ (t ++ codes "/audit")) r.2, r.3)
part_resource path holds resource h e = let same : resources.Holds ≡ resource = cc in subst (SpellsResource path) same (h.0, tt)
part_resource path (hold text) resource h e = let r = by_number resources.Hold text resource e in subst (SpellsResource path) r.1 (h.0 ∙ ap (λ t. codes "/holds/" ++ t) r.2, r.3)
part_resource path due resource h e = let same : resources.Due ≡ resource = cc in subst (SpellsResource path) same (h.0, tt)

pub reading-spelled : (path : List ℕ) (resource : Resource) → resource_named path ≡ Some resource → SpellsResource path resource
reading-spelled path resource e = option_and_then_some resource_by_parts (parts_of path) resource e (λ parts is named. part_resource path parts resource (spelled path parts is) named)

pub one-spelled : (path : List ℕ) (a b : Resource) → SpellsResource path a → SpellsResource path b → a ≡ b
one-spelled path a b x y = let e : Some a ≡ Some b = sym (spelling-read path a x) ∙ spelling-read path b y in cc
