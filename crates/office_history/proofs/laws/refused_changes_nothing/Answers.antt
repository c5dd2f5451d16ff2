use Rattle.office_history.proofs.Lemmas.{◌≡◌, ◌∙◌, ap, sym, inl, inr, List, Refusal, History, Change, with_changes, changes_unless, allowed_change, Item, Step, grown_by_none, refused_change}
use Rattle.office_core.specs.declared.answer.Answer.TheVariants as answers
use Rattle.office_history.proofs.laws.refused_changes_nothing.Goals as goal

pub returns-clause-change : goal.returns-clause-change
returns-clause-change c = λ h day caller request why is. ap (λ r. changes_unless r (allowed_change h day request)) is

unchanged : (h next : History) (item : Item) (why : Refusal) → Step h item (answers.Refused why) next → next ≡ h
unchanged h next item why (inl failed) = failed.1
unchanged h next item why (inr served) =
    served.1
    ∙ ap (λ (more : List Change). with_changes h more) (refused_change h item.0 item.1.now item.2 why (sym served.0))
    ∙ sym (grown_by_none h)

pub returns-clause-answered : goal.returns-clause-answered
returns-clause-answered c = unchanged
