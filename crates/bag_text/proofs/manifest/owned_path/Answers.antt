use Rattle.bag_text.proofs.Lemmas.{◌≡◌, true, false, rules, IsUtf8-from_is_utf8, is_good, good_is_text}
use Rattle.bag_text.proofs.manifest.owned_path.Goals as goal

pub returns : goal.returns
returns c =
    let good : is_good c.args.bytes.items ≡ true = search rules in
    let no : false ≡ true = c.in-Err.ensures.succeeds (IsUtf8-from_is_utf8 c.args.bytes.items (good_is_text c.args.bytes.items good)) in absurd cc
