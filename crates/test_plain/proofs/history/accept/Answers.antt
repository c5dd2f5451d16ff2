use Rattle.test_plain.proofs.Lemmas.{sym, subst, History, change_seen, HasRoom, within_grown}
use Rattle.test_plain.proofs.history.accept.Goals as goal

pub invariant_of-office-2 : goal.invariant_of-office-2
invariant_of-office-2 c =
    let P : History → Type 0 = λ h. HasRoom h (change_seen c.args.kind) in
    let room = subst P (sym c.office.view_is) c.requires in
    rw c.in_ok-push.ensures.items (within_grown (record { max_deposits = c.office.inside.limits.deposits; max_holds = c.office.inside.limits.holds; changes = c.office.inside.changes.items }) (change_seen c.args.kind) room c.office.invariant)
