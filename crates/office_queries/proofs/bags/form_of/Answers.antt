use Rattle.office_queries.proofs.Lemmas.{rules, ◌≡◌, Err, IfErr, ap, ◌∙◌, IfErr-weaker, IsBag, files_of, TableFault, Memory, wants_memory}
use Rattle.office_queries.proofs.bags.form_of.Goals as goal

pub returns-in_err-write_bagset-in-Ok-clause-none : goal.returns-in_err-write_bagset-in-Ok-clause-none
returns-in_err-write_bagset-in-Ok-clause-none c =
    let bag : IsBag (files_of c.args.files.now) = search rules in
    let memory : IfErr c.from_residual.result (λ (fault : TableFault). fault ≡ Memory) = search rules in
    IfErr-weaker c.from_residual.result _ _ (λ fault is. (λ e. absurd cc, λ never. absurd (never bag))) memory

pub returns-in-Err-Memory-clause-none : goal.returns-in-Err-Memory-clause-none
returns-in-Err-Memory-clause-none c = (λ e. absurd cc, λ never. absurd (wants_memory (files_of c.args.files.now) c.of.result c.of.ensures.refused (c.in-Err-Memory.is ∙ ap Err c.in-Err-Memory.field-0-is) never))
