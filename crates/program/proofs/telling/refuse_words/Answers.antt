use Rattle.std.proofs.Common.{◌≡◌, ◌∙◌, sym}
use Rattle.std.specs.IoError.{error_kind}
use Rattle.std.specs.declared.io.ErrorKind.TheVariants.{InvalidData}
use Rattle.program.proofs.telling.refuse_words.Goals as goal

pub returns-in-InvalidData : goal.returns-in-InvalidData
returns-in-InvalidData g c =
    let is : error_kind c.args.why.now ≡ InvalidData = sym c.kind.ensures ∙ c.in-InvalidData.is in
    rw is c.tell.ensures
