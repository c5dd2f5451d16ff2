-- What the queries of routes say. A query is what follows the first `?` of a target (RFC 3986, section 3.4), and is read as form pairs (URL Standard, section 5). Which keys a route takes is Depot's own rule.
use Rattle.std.specs.Prelude.{◌≡◌, ℕ, ◌≤◌, List, [], ◌∷◌, map, filter, count_by, All, Contains, Option, Some, None, codes, nat_eq}
use Rattle.std.specs.Cmp.Lexicographic.{pointwise}
use Rattle.std.specs.Str.Lossy.{utf8_lossy}
use Rattle.form_urlencoded.specs.Form.{decode, raw_pairs}
use Rattle.jiff.specs.Types.{Date}
use Rattle.office_core.specs.Days.{IsDay, day_text}
use Rattle.office_core.specs.Names.{IsName, IsAccession}
use Rattle.desk_forms.specs.declared.query.Listing.{Listing}
use Rattle.office_core.specs.Descriptions.{Description}

-- the text that a key or a value means
abbrev pub text_of : List ℕ → List ℕ
text_of bytes = utf8_lossy (decode bytes)

-- the pairs of a query, each a key and a value, decoded
abbrev pub query_pairs : List ℕ → List (List ℕ × List ℕ)
query_pairs query = map (λ p. (text_of p.0, text_of p.1)) (raw_pairs query)

-- the values under a key, in their order
abbrev pub values_under : List ℕ → List (List ℕ × List ℕ) → List (List ℕ)
values_under key pairs = map (λ p. p.1) (filter (λ p. pointwise nat_eq p.0 key) pairs)

-- no pair has another key
abbrev pub HasOnly : List (List ℕ) → List (List ℕ × List ℕ) → Type 0
HasOnly keys pairs = All (λ p. Contains keys p.0) pairs

-- the key occurs in one pair, whose value is this
abbrev pub OccursOnce : List ℕ → List (List ℕ × List ℕ) → List ℕ → Type 0
OccursOnce key pairs value = values_under key pairs ≡ value ∷ []

-- the key occurs in one pair, whose value is this name, or in none
abbrev pub GivesName : List ℕ → List (List ℕ × List ℕ) → Option (List ℕ) → Type 0
GivesName key pairs None = values_under key pairs ≡ []
GivesName key pairs (Some name) = OccursOnce key pairs name × IsName name

-- what the query of a list asks for
pub record AsksListing (pairs : List (List ℕ × List ℕ)) (listing : Listing) : Type 0 where
  pub keys : HasOnly (codes "collection" ∷ (codes "class" ∷ [])) pairs
  pub collection : GivesName (codes "collection") pairs listing.collection
  pub class : GivesName (codes "class") pairs listing.class

-- what the query of a deposit says of the deposit
pub record DescribesDeposit (pairs : List (List ℕ × List ℕ)) (deposit : Description) : Type 0 where
  pub keys : HasOnly (codes "collection" ∷ (codes "class" ∷ (codes "accession" ∷ (codes "closed" ∷ [])))) pairs
  pub collection : OccursOnce (codes "collection") pairs deposit.collection × IsName deposit.collection
  pub class : OccursOnce (codes "class") pairs deposit.class × IsName deposit.class
  pub accession : OccursOnce (codes "accession") pairs deposit.accession × IsAccession deposit.accession
  pub closed : OccursOnce (codes "closed") pairs (day_text deposit.closed) × IsDay deposit.closed

-- how many pairs have the key
abbrev pub count_of : List ℕ → List (List ℕ × List ℕ) → ℕ
count_of key pairs = count_by (λ p. pointwise nat_eq p.0 key) pairs

-- each value under the key has the form
abbrev pub HaveForm : (List ℕ → Type 0) → List ℕ → List (List ℕ × List ℕ) → Type 0
HaveForm Form key pairs = All (λ p. p.0 ≡ key → Form p.1) pairs

-- the text writes a day of the office
abbrev pub IsDayText : List ℕ → Type 0
IsDayText text = (day : Date) × IsDay day × (text ≡ day_text day)

-- a query of a list, by counts: no other key, neither more than once, and names under them
pub record IsListing (pairs : List (List ℕ × List ℕ)) : Type 0 where
  pub keys : HasOnly (codes "collection" ∷ (codes "class" ∷ [])) pairs
  pub collection : (count_of (codes "collection") pairs ≤ 1) × HaveForm IsName (codes "collection") pairs
  pub class : (count_of (codes "class") pairs ≤ 1) × HaveForm IsName (codes "class") pairs

-- a query of a deposit, by counts: no other key, each once, and under each what it takes
pub record IsDepositQuery (pairs : List (List ℕ × List ℕ)) : Type 0 where
  pub keys : HasOnly (codes "collection" ∷ (codes "class" ∷ (codes "accession" ∷ (codes "closed" ∷ [])))) pairs
  pub collection : (count_of (codes "collection") pairs ≡ 1) × HaveForm IsName (codes "collection") pairs
  pub class : (count_of (codes "class") pairs ≡ 1) × HaveForm IsName (codes "class") pairs
  pub accession : (count_of (codes "accession") pairs ≡ 1) × HaveForm IsAccession (codes "accession") pairs
  pub closed : (count_of (codes "closed") pairs ≡ 1) × HaveForm IsDayText (codes "closed") pairs
