-- Which queries say something, by counting their keys.
use Rattle.desk_forms.proofs.Common.{◌≡◌, ℕ, zero, suc, ◌≤◌, ◌⊎◌, List, [], ◌∷◌, length, Option, Some, None, Contains, codes, refl, sym, ◌∙◌, subst, inl, inr, arith, All-contains, Contains-get_or, day_text, Listing, Description, values_under, count_of, OccursOnce, GivesName, AsksListing, DescribesDeposit, HaveForm, IsDayText, IsListing, IsDepositQuery}
use Rattle.std.specs.Prelude.{slice_index_or}
use Rattle.office_core.specs.Names.{IsName, IsAccession}
use Rattle.desk_forms.proofs.CountLemmas.{Pair, none_contained, first_contained, contained, same_pair, length-values_of, pair_of_value, value_of_pair, once_by_count, nowhere_by_count}

some_one : (xs : List (List ℕ)) → length xs ≡ 1 → (v : List ℕ) × (xs ≡ v ∷ [])
some_one [] one = absurd (omega arith)
some_one (a ∷ []) one = (a, refl)
some_one (a ∷ b ∷ xs) one = absurd (omega arith)

at_most_one : (n : ℕ) → n ≤ 1 → (n ≡ 0) ⊎ (n ≡ 1)
at_most_one zero small = inl refl
at_most_one (suc zero) small = inr refl
at_most_one (suc (suc n)) small = absurd (omega arith)

-- a key that one pair has occurs once, with a value of the form
once_of_count : (Form : List ℕ → Type 0) (key : List ℕ) (pairs : List Pair) → count_of key pairs ≡ 1 → HaveForm Form key pairs → (v : List ℕ) × OccursOnce key pairs v × Form v
once_of_count Form key pairs count forms =
    let one = some_one (values_under key pairs) (length-values_of key pairs ∙ count) in
    let P : List (List ℕ) → Type 0 = λ vs. Contains vs one.0 in
    let in_pairs = pair_of_value key one.0 pairs (subst P (sym one.1) (first_contained one.0 [])) in
    (one.0, one.1, All-contains (λ (p : Pair). p.0 ≡ key → Form p.1) pairs (key, one.0) forms in_pairs refl)

-- the value of a pair with the key is among the key's values
value_here : (key : List ℕ) (pairs : List Pair) (p : Pair) → Contains pairs p → p.0 ≡ key → Contains (values_under key pairs) p.1
value_here key pairs p here same =
    let P : Pair → Type 0 = λ q. Contains pairs q in
    value_of_pair key p.1 pairs (subst P (same_pair p key p.1 same refl) here)

forms_of_once : (Form : List ℕ → Type 0) (key : List ℕ) (pairs : List Pair) (v : List ℕ) → OccursOnce key pairs v → Form v → HaveForm Form key pairs
forms_of_once Form key pairs v once form = λ k d within same.
    let p : Pair = slice_index_or pairs k d in
    let P : List (List ℕ) → Type 0 = λ vs. Contains vs p.1 in
    elim (contained v [] p.1 (subst P once (value_here key pairs p (Contains-get_or pairs k d within) same))) [
      | inl is ↦ subst Form is form
      | inr none ↦ absurd (none_contained p.1 none)
    ]

forms_of_none : (Form : List ℕ → Type 0) (key : List ℕ) (pairs : List Pair) → values_under key pairs ≡ [] → HaveForm Form key pairs
forms_of_none Form key pairs none = λ k d within same.
    let p : Pair = slice_index_or pairs k d in
    let P : List (List ℕ) → Type 0 = λ vs. Contains vs p.1 in
    absurd (none_contained p.1 (subst P none (value_here key pairs p (Contains-get_or pairs k d within) same)))

counts_of_once : (Form : List ℕ → Type 0) (key : List ℕ) (pairs : List Pair) (v : List ℕ) → OccursOnce key pairs v → Form v → (count_of key pairs ≡ 1) × HaveForm Form key pairs
counts_of_once Form key pairs v once form =
    (((once_by_count key v pairs).0 once).0, forms_of_once Form key pairs v once form)

counts_of_name : (key : List ℕ) (pairs : List Pair) (name : Option (List ℕ)) → GivesName key pairs name → (count_of key pairs ≤ 1) × HaveForm IsName key pairs
counts_of_name key pairs None none =
    (omega (arith, (nowhere_by_count key pairs).0 none), forms_of_none IsName key pairs none)
counts_of_name key pairs (Some v) h =
    let counts = counts_of_once IsName key pairs v h.0 h.1 in
    (omega (arith, counts.0), counts.1)

name_of_counts : (key : List ℕ) (pairs : List Pair) → (count_of key pairs ≤ 1) × HaveForm IsName key pairs → (name : Option (List ℕ)) × GivesName key pairs name
name_of_counts key pairs h =
    elim (at_most_one (count_of key pairs) h.0) [
      | inl none ↦ (None, (nowhere_by_count key pairs).1 none)
      | inr one ↦ (let given = once_of_count IsName key pairs one h.1 in (Some given.0, (given.1, given.2)))
    ]

pub listing_by_counts : (pairs : List Pair) → ((listing : Listing) × AsksListing pairs listing → IsListing pairs) × (IsListing pairs → (listing : Listing) × AsksListing pairs listing)
listing_by_counts pairs = (
  λ h. record {
    keys = h.1.keys;
    collection = counts_of_name (codes "collection") pairs h.0.collection h.1.collection;
    class = counts_of_name (codes "class") pairs h.0.class h.1.class;
  },
  λ h. let collection = name_of_counts (codes "collection") pairs h.collection in
      let class = name_of_counts (codes "class") pairs h.class in
      (record { collection = collection.0; class = class.0 }, record { keys = h.keys; collection = collection.1; class = class.1 }),
)

pub deposit_by_counts : (pairs : List Pair) → ((deposit : Description) × DescribesDeposit pairs deposit → IsDepositQuery pairs) × (IsDepositQuery pairs → (deposit : Description) × DescribesDeposit pairs deposit)
deposit_by_counts pairs = (
  λ h. record {
    keys = h.1.keys;
    collection = counts_of_once IsName (codes "collection") pairs h.0.collection h.1.collection.0 h.1.collection.1;
    class = counts_of_once IsName (codes "class") pairs h.0.class h.1.class.0 h.1.class.1;
    accession = counts_of_once IsAccession (codes "accession") pairs h.0.accession h.1.accession.0 h.1.accession.1;
    closed = counts_of_once IsDayText (codes "closed") pairs (day_text h.0.closed) h.1.closed.0 (h.0.closed, h.1.closed.1, refl);
  },
  λ h. let collection = once_of_count IsName (codes "collection") pairs h.collection.0 h.collection.1 in
      let class = once_of_count IsName (codes "class") pairs h.class.0 h.class.1 in
      let accession = once_of_count IsAccession (codes "accession") pairs h.accession.0 h.accession.1 in
      let closed = once_of_count IsDayText (codes "closed") pairs h.closed.0 h.closed.1 in
      let P : List ℕ → Type 0 = λ v. OccursOnce (codes "closed") pairs v in (
        record { collection = collection.0; class = class.0; accession = accession.0; closed = closed.2.0 },
        record {
          keys = h.keys;
          collection = (collection.1, collection.2);
          class = (class.1, class.2);
          accession = (accession.1, accession.2);
          closed = (subst P closed.2.2 closed.1, closed.2.1);
        },
      ),
)
