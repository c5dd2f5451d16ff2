use Rattle.office_queries.proofs.Common.{rules, ◌≡◌, true, false, ◌&&◌, Result, Err, ap, ok_or, sym, ◌∙◌, subst, and_parts, false_from_ne_true, answer_if, description_of, Date, DepositRow, has_names, TableFault, Store}
use Rattle.office_core.specs.Descriptions.{Description}
use Rattle.office_core.specs.Names.{is_accession, is_name}
use Rattle.office_queries.proofs.records.description_in.Goals as goal

-- where one of them is none
unnamed : (row : DepositRow) → (is_accession row.accession ≡ true → is_name row.collection ≡ true → is_name row.class ≡ true → ⊥) → has_names row ≡ false
unnamed row none = false_from_ne_true (has_names row) (λ names.
    let first = and_parts (is_accession row.accession) (is_name row.collection && is_name row.class) names in
    let rest = and_parts (is_name row.collection) (is_name row.class) first.1 in
    none first.0 rest.0 rest.1)

-- there is no description then
fails : (row : DepositRow) (closed : Date) → has_names row ≡ false → (result : Result Description TableFault) → result ≡ Err Store → result ≡ ok_or (answer_if (has_names row) (description_of row closed)) Store
fails row closed none result is = is ∙ ap (λ b. ok_or (answer_if b (description_of row closed)) Store) (sym none)

pub returns : goal.returns
returns c =
    let row = c.args.row.now in
    let accession : c.in_ok-accession.accession ≡ row.accession = search rules in
    let collection : c.in_ok-collection.collection ≡ row.collection = search rules in
    let class : c.in_ok-class.class ≡ row.class = search rules in
    let named : has_names row ≡ true = λ i. subst (λ text. is_accession text ≡ true) accession c.in_ok-accession.ensures.kind i
    && (subst (λ text. is_name text ≡ true) collection c.in_ok-collection.ensures.kind i && subst (λ text. is_name text ≡ true) class c.in_ok-class.ensures.kind i) in
    (λ i. ok_or (answer_if true (record { collection = collection i; class = class i; accession = accession i; closed = c.args.closed })) Store) ∙ ap (λ b. ok_or (answer_if b (description_of row c.args.closed)) Store) (sym named)

pub returns-in_err-accession : goal.returns-in_err-accession
returns-in_err-accession c =
    let same : c.args.row.now.accession ≡ c.deref.result.now = search rules in
    fails c.args.row.now c.args.closed (unnamed c.args.row.now (λ accession _ _. c.in_err-accession.ensures.none (subst (λ text. is_accession text ≡ true) same accession))) _ (search rules)

pub returns-in_err-collection : goal.returns-in_err-collection
returns-in_err-collection c =
    let same : c.args.row.now.collection ≡ c.deref-2.result.now = search rules in
    fails c.args.row.now c.args.closed (unnamed c.args.row.now (λ _ collection _. c.in_err-collection.ensures.none (subst (λ text. is_name text ≡ true) same collection))) _ (search rules)

pub returns-in_err-class : goal.returns-in_err-class
returns-in_err-class c =
    let same : c.args.row.now.class ≡ c.deref-3.result.now = search rules in
    fails c.args.row.now c.args.closed (unnamed c.args.row.now (λ _ _ class. c.in_err-class.ensures.none (subst (λ text. is_name text ≡ true) same class))) _ (search rules)
