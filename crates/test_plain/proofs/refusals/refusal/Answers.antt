use Rattle.test_plain.proofs.Lemmas.{place_stands, place_passes}
use Rattle.test_plain.proofs.refusals.refusal.Goals as goal

pub returns-in-HoldDeposit : goal.returns-in-HoldDeposit
returns-in-HoldDeposit c = rw c.in-HoldDeposit.is c.hold_refusal.ensures

pub returns-in-HoldClass : goal.returns-in-HoldClass
returns-in-HoldClass c = rw c.in-HoldClass.is c.class_hold_refusal.ensures

pub returns-in-Some : goal.returns-in-Some
returns-in-Some c =
    rw c.in-Deposit.is (place_stands c.args.office.now c.args.day c.args.caller.now c.in-Deposit.description c.in-Deposit.bag c.in-Some.refusal c.first_filing_refusal.result c.first_filing_refusal.ensures c.in-Some.is)

pub returns-in-None : goal.returns-in-None
returns-in-None c =
    rw c.in-Deposit.is (place_passes c.args.office.now c.args.day c.args.caller.now c.in-Deposit.description c.in-Deposit.bag c.first_filing_refusal.result c.first_bag_refusal.result c.first_filing_refusal.ensures c.in-None.is c.first_bag_refusal.ensures)
