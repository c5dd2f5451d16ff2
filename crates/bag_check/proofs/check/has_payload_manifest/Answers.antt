use Rattle.bag_check.proofs.Lemmas.{◌∙◌, sym, rules, YieldsList-from_slice, any_from_yields_List, is_kind, Payload, named_seen, any_map}
use Rattle.bag_check.proofs.check.has_payload_manifest.Goals as goal

pub returns : goal.returns
returns c =
    any_from_yields_List (λ named. is_kind Payload (named_seen named).kind) _ _ _ c.any.ensures.ran (YieldsList-from_slice _ c.iter.ensures.rest) (λ x b q k. search rules)
    ∙ sym (any_map named_seen (λ m. is_kind Payload m.kind) c.args.found.now)
