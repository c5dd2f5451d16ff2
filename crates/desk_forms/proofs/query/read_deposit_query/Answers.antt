use Rattle.desk_forms.proofs.Common.{ℕ, List, [], ◌∷◌, codes, rules, not_from_Decides, query_pairs}
use Rattle.desk_forms.proofs.QueryLemmas.{Decides-has_only}
use Rattle.desk_forms.proofs.query.read_deposit_query.Goals as goal

abbrev the_keys : List (List ℕ)
the_keys = codes "collection" ∷ (codes "class" ∷ (codes "accession" ∷ (codes "closed" ∷ [])))

pub returns-in_err-check_keys-clause-refused : goal.returns-in_err-check_keys-clause-refused
returns-in_err-check_keys-clause-refused c = λ bad _ said.
    not_from_Decides _ (Decides-has_only the_keys (query_pairs c.args.query.now)) (c.in_err-check_keys.ensures.refused (search rules)) said.keys

pub returns-clause-deposit : goal.returns-clause-deposit
returns-clause-deposit c = record {
  keys = (Decides-has_only the_keys (query_pairs c.args.query.now)).0 c.in_ok-check_keys.ensures.taken;
  collection = c.in_ok-need_name.ensures.found;
  class = c.in_ok-need_name-2.ensures.found;
  accession = c.in_ok-need_accession.ensures.found;
  closed = c.in_ok-need_day.ensures.found;
}
