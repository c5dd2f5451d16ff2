use Rattle.office_holds.proofs.Common.{rules, ◌≡◌, ◌↔◌, IfErr, Option, Some, None, refl, sym, ◌∙◌, IfErr-weaker, TableFault, Memory, Store, hold_by}
use Rattle.office_core.specs.declared.answer.LiveHold.{LiveHold}
use Rattle.office_holds.proofs.releasing.unless_refused.Goals as goal

-- a fault that isn't one of the store is one for a hold
for_hold : (told : Option LiveHold) (fault : TableFault) → ((fault ≡ Store) ↔ (told ≡ None)) → fault ≡ Memory → (hold : LiveHold) × (told ≡ Some hold)
for_hold None fault store memory = let both : Memory ≡ Store = sym memory ∙ store.1 refl in absurd cc
for_hold (Some hold) fault store memory = (hold, refl)

pub returns-in_err-hold_in-clause-memory : goal.returns-in_err-hold_in-clause-memory
returns-in_err-hold_in-clause-memory c =
    let fault = c.in_err-hold_in.field-0.0 in
    let store : (fault ≡ Store) ↔ (hold_by c.args.hold ≡ None) = search rules in
    let gives : IfErr c.from_residual-in_err-hold_in.result (λ other. other ≡ fault) = search rules in
    IfErr-weaker c.from_residual-in_err-hold_in.result _ _ (λ other e is. for_hold (hold_by c.args.hold) fault store (sym e ∙ is)) gives
