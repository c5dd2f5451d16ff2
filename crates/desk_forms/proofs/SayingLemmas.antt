-- What a query or a body says is one thing.
use Rattle.desk_forms.proofs.Common.{◌≡◌, ℕ, List, [], ◌∷◌, Option, Some, None, codes, refl, sym, ap, ◌∙◌, day_text, Listing, Description, values_under, GivesName, AsksListing, DescribesDeposit}
use Rattle.std.proofs.lemmas.Option.{same_Some}
use Rattle.office_core.proofs.DayLemmas.{day_text-injective}
use Rattle.desk_forms.specs.declared.body.HoldBody.{HoldBody}
use Rattle.desk_forms.specs.declared.body.HoldBody.TheVariants.{Deposit, Collection, Class}
use Rattle.desk_forms.specs.Bodies.{IsJsonOf, years_object, SaysYears, hold_object, SaysHold}
use Rattle.serde_json.specs.Data.{Data}

one_value : (values : List (List ℕ)) (a b : List ℕ) → values ≡ a ∷ [] → values ≡ b ∷ [] → a ≡ b
one_value values a b x y = let e : a ∷ [] ≡ b ∷ [] = sym x ∙ y in cc

-- a key gives one name, or none
one_name : (key : List ℕ) (pairs : List (List ℕ × List ℕ)) (a b : Option (List ℕ)) → GivesName key pairs a → GivesName key pairs b → a ≡ b
one_name key pairs None None x y = refl
one_name key pairs None (Some b) x y = let e : [] ≡ b ∷ [] = sym x ∙ y.0 in cc
one_name key pairs (Some a) None x y = let e : [] ≡ a ∷ [] = sym y ∙ x.0 in cc
one_name key pairs (Some a) (Some b) x y = ap Some (one_value (values_under key pairs) a b x.0 y.0)

pub one_listing : (pairs : List (List ℕ × List ℕ)) (a b : Listing) → AsksListing pairs a → AsksListing pairs b → a ≡ b
one_listing pairs a b x y =
    let collection = one_name (codes "collection") pairs a.collection b.collection x.collection y.collection in
    let class = one_name (codes "class") pairs a.class b.class x.class y.class in
    λ i. record { collection = collection i; class = class i }

pub one_deposit_query : (pairs : List (List ℕ × List ℕ)) (a b : Description) → DescribesDeposit pairs a → DescribesDeposit pairs b → a ≡ b
one_deposit_query pairs a b x y =
    let collection = one_value _ a.collection b.collection x.collection.0 y.collection.0 in
    let class = one_value _ a.class b.class x.class.0 y.class.0 in
    let accession = one_value _ a.accession b.accession x.accession.0 y.accession.0 in
    let closed = day_text-injective a.closed b.closed x.closed.1 y.closed.1 (one_value _ (day_text a.closed) (day_text b.closed) x.closed.0 y.closed.0) in
    λ i. record { collection = collection i; class = class i; accession = accession i; closed = closed i }

pub one_json : (body : List ℕ) (a b : Data) → IsJsonOf body a → IsJsonOf body b → a ≡ b
one_json body a b x y = same_Some a b (sym x.1 ∙ y.1)

one_years_object : (a b : Option ℕ) → years_object a ≡ years_object b → a ≡ b
one_years_object None None e = refl
one_years_object None (Some n) e = cc
one_years_object (Some m) None e = cc
one_years_object (Some m) (Some n) e = cc

pub one_years : (body : List ℕ) (a b : Option ℕ) → SaysYears body a → SaysYears body b → a ≡ b
one_years body a b x y = one_years_object a b (one_json body _ _ x.json y.json)

one_hold_object : (a b : HoldBody) → hold_object a ≡ hold_object b → a ≡ b
one_hold_object (Deposit m s) (Deposit n t) e = cc
one_hold_object (Deposit m s) (Collection c t) e = cc
one_hold_object (Deposit m s) (Class c t) e = cc
one_hold_object (Collection c s) (Deposit n t) e = cc
one_hold_object (Collection c s) (Collection d t) e = cc
one_hold_object (Collection c s) (Class d t) e = cc
one_hold_object (Class c s) (Deposit n t) e = cc
one_hold_object (Class c s) (Collection d t) e = cc
one_hold_object (Class c s) (Class d t) e = cc

pub one_hold : (body : List ℕ) (a b : HoldBody) → SaysHold body a → SaysHold body b → a ≡ b
one_hold body a b x y = one_hold_object a b (one_json body _ _ x.json y.json)
