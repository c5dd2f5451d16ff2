use Rattle.bag_check.proofs.Lemmas.{map, ap, subst, ◌∙◌, Contains, listed_seen, digests_are, right_of, digests_of}
use Rattle.bag_check.proofs.check.check_and_digest.Goals as goal

pub digests_of-requires : goal.digests_of-requires
digests_of-requires c = rw c.deref.ensures.value (λ f there.
    right_of c.args.bag.now c.files-files.ensures.bag (map listed_seen c.in_ok-judged.judged.listed.items) c.in_ok-judged.ensures.fixity f (subst (λ bag. Contains bag f) c.files-files.ensures.whole there))

pub returns-clause-digests : goal.returns-clause-digests
returns-clause-digests c = c.in_ok-digests.ensures ∙ digests_are c.files-files.result.now ∙ ap digests_of c.files-files.ensures.whole
