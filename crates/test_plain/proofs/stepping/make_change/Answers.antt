use Rattle.test_plain.proofs.Common.{◌≡◌, OnOk, sym, ap, subst, ◌∙◌, with_changes, change_seen, changes_seen, grown_by_none}
use Rattle.test_plain.proofs.stepping.make_change.Goals as goal

pub accept-requires : goal.accept-requires
accept-requires c = c.requires (change_seen c.in-Some.kind) (sym c.in_ok-kind.ensures ∙ ap changes_seen c.in-Some.is)

pub returns-in-Some-clause-made : goal.returns-in-Some-clause-made
returns-in-Some-clause-made c =
    subst (λ changes. OnOk c.accept.result (c.accept.new.office ≡ with_changes c.args.office.now changes)) (sym (ap changes_seen c.in-Some.is) ∙ c.in_ok-kind.ensures) c.accept.ensures.accepted

pub returns-in-None-clause-made : goal.returns-in-None-clause-made
returns-in-None-clause-made c = grown_by_none c.args.office.now ∙ ap (with_changes c.args.office.now) (sym (ap changes_seen c.in-None.is) ∙ c.in_ok-kind.ensures)
