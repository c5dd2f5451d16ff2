use Rattle.bag_text.proofs.Lemmas.{◌≡◌, ◌∙◌, sym, ap, ◌++◌, lies_under, Decides-eqb, strip_prefix_is, under_rest, not_under}
use Rattle.bag_text.proofs.clash.is_under.Goals as goal

pub returns-in-Some : goal.returns-in-Some
returns-in-Some c =
    let stripped = strip_prefix_is Decides-eqb c.as_bytes.result.now c.as_bytes-2.result.now c.strip_prefix.result c.strip_prefix.ensures.cases in
    let is = rw c.in-Some.is at stripped in
    let whole : c.args.inner.now ≡ c.args.outer.now ++ c.in-Some.rest.now = rw (← c.as_bytes.ensures.value, ← c.as_bytes-2.ensures.value) is in
    c.begins_with_slash.ensures ∙ sym (under_rest c.args.outer.now c.in-Some.rest.now) ∙ ap (λ t. lies_under c.args.outer.now t) (sym whole)

pub returns-in-None : goal.returns-in-None
returns-in-None c =
    let stripped = strip_prefix_is Decides-eqb c.as_bytes.result.now c.as_bytes-2.result.now c.strip_prefix.result c.strip_prefix.ensures.cases in
    let is = rw c.in-None.is at stripped in
    sym (not_under c.args.outer.now c.args.inner.now (λ rest e. is rest (rw (c.as_bytes.ensures.value, c.as_bytes-2.ensures.value) e)))
