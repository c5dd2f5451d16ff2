use Rattle.test_plain.proofs.Lemmas.{◌≡◌, ◌∙◌, ◌+◌, Some, None, arith, common_steps, deposit_in, filter_map, accession_behind, accession_found}
use Rattle.test_plain.proofs.reading.accession_of.Goals as goal

pub returns-then-eq : goal.returns-then-eq
returns-then-eq c =
    let found : Some (c.loop-change.number + 1) ≡ accession_behind 0 c.args.accession.now (filter_map deposit_in c.args.office.now.changes) = grind (arith, common_steps) in
    found ∙ accession_found c.args.office.now c.args.accession.now

pub returns : goal.returns
returns c =
    let none : None ≡ accession_behind 0 c.args.accession.now (filter_map deposit_in c.args.office.now.changes) = grind (arith, common_steps) in
    none ∙ accession_found c.args.office.now c.args.accession.now
