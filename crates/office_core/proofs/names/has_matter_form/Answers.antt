use Rattle.office_core.proofs.Common.{◌≡◌, true, rules, is_utf8-from_IsUtf8}
use Rattle.std.specs.Str.{is_utf8}
use Rattle.office_core.proofs.names.has_matter_form.Goals as goal

pub returns-then-has_length : goal.returns-then-has_length
returns-then-has_length c =
    let utf8 : is_utf8 c.args.text.now ≡ true = is_utf8-from_IsUtf8 c.args.text.now c.utf8.text in
    rw utf8 (search rules)
