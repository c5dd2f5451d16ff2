use Rattle.bag_check.proofs.Lemmas.{◌≡◌, ◌∙◌, sym, rules, count_by, pair_in, is_oxum, count_oxums}
use Rattle.bag_check.proofs.info.count_oxums.Goals as goal

pub returns : goal.returns
returns c =
    let counted : c.count.result ≡ count_by (λ k. is_oxum (pair_in k)) c.args.pairs.now = search rules in
    counted ∙ sym (count_oxums c.args.pairs.now)
