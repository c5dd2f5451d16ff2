use Rattle.office_engine.proofs.Lemmas.{inl, state, kept_stands, stopped_goes_on, stopped_in_turn}
use Rattle.office_engine.proofs.laws.a_stopped_upgrade_goes_on.Goals as goal

pub returns-clause-once : goal.returns-clause-once
returns-clause-once g c old stopped again done version h was_open kept leaves_at may takes =
    stopped_goes_on (state g.S.Store again) (state g.S.Store done) version h takes (leaves_at version h was_open (kept_stands version h (state g.S.Store old) was_open kept) (state g.S.Store again).now.trees may)

pub returns-clause-often : goal.returns-clause-often
returns-clause-often g c first left stops version h stands stopped = stopped_in_turn g.S.Store first stops left version h stopped (inl stands)

pub returns-clause-done : goal.returns-clause-done
returns-clause-done g c again done version h stands takes = stopped_goes_on (state g.S.Store again) (state g.S.Store done) version h takes stands
