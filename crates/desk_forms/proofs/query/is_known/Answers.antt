use Rattle.desk_forms.proofs.Common.{◌≡◌, ◌∙◌, ap, map, is_one_of, text_of}
use Rattle.desk_forms.proofs.QueryLemmas.{list_any-lent}
use Rattle.desk_forms.proofs.query.is_known.Goals as goal

pub returns : goal.returns
returns c =
    let text : c.as_str.result.now ≡ text_of c.args.encoded.now = c.as_str.ensures.value ∙ c.in_ok-key.ensures.value.2 in
    c.is_one_of.ensures ∙ list_any-lent c.args.keys.now c.as_str.result.now ∙ ap (is_one_of (map (λ k. k.now) c.args.keys.now)) text
