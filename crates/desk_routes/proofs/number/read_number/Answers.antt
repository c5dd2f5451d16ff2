use Rattle.desk_routes.proofs.Common.{◌≡◌, ◌∙◌, sym, ap, true, is_number}
use Rattle.std.specs.Result.{result_ok}
use Rattle.desk_routes.proofs.NumberLemmas.{number_gives, number_is}
use Rattle.desk_routes.proofs.number.read_number.Goals as goal

pub returns-then-is_number : goal.returns-then-is_number
returns-then-is_number c =
    let yes : is_number c.args.text.now ≡ true = ap is_number (sym c.as_bytes.ensures.value) ∙ sym c.is_number.ensures ∙ c.if-is_number.true in
    let r = number_gives c.args.text.now c.parse.result c.parse.ensures.value.0 yes in
    c.ok.ensures.value ∙ ap result_ok r ∙ sym (number_is c.args.text.now yes)
