use Rattle.office_core.proofs.Lemmas.{arith, ◌≡◌, FitsSigned, w32, w64, to_z-of_z, signed_arith, epoch_day, IsEpochDay, some_and_ok}
use Rattle.office_core.proofs.day.date_at.Goals as goal

pub returns : goal.returns
returns c =
    let number = c.args.number in
    let f4 : FitsSigned w32 number = c.ranges.number in
    let f8 : FitsSigned w64 number = omega (arith, signed_arith) in
    let in_range : IsEpochDay number = (omega (arith, signed_arith, c.requires.0), omega (arith, signed_arith, c.requires.1)) in
    let succeeds = simp to_z-of_z at c.from_unix_epoch_day.ensures.succeeds in
    let value = simp to_z-of_z at c.from_unix_epoch_day.ensures.value in
    some_and_ok (λ d. epoch_day d ≡ number) c.ok.result c.from_unix_epoch_day.result c.ok.ensures.value (succeeds.1 in_range) value
