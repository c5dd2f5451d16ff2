use Rattle.office_engine.proofs.Common.{◌≡◌, sym, subst, rules, Result, IfOk, IfOk-weaker, Database, state, Answer, Request, TableFault, Visit, visit_on, IsServedBy}
use Rattle.office_engine.proofs.transacting.read.Goals as goal

-- what reads alone is served, by whichever name the request has
read : (old new : Database) (visit : Visit) (request named : Request) (result : Result Answer TableFault) → request ≡ named → IfOk result (λ given. (new ≡ old) × IsServedBy visit named old new given) → IfOk result (IsServedBy visit request old new)
read old new visit request named result is told = subst (λ (request : Request). IfOk result (IsServedBy visit request old new)) (sym is) (IfOk-weaker result _ _ (λ given both. both.1) told)

pub returns-in-List-clause-serves : goal.returns-in-List-clause-serves
returns-in-List-clause-serves g c clean office =
    let served = IfOk-weaker c.list.result _ _ (λ given both. both.1) (c.list.ensures.serves clean office) in
    search (rules, served)

pub returns-in-Record-clause-serves : goal.returns-in-Record-clause-serves
returns-in-Record-clause-serves g c clean office =
    read (state g.S.Store c.args.tx.now.conn.now).now (state g.S.Store c.record.new.tx.conn.now).now (visit_on c.args.day c.args.caller.now) _ _ c.record.result c.in-Record.is (c.record.ensures.serves clean office)

pub returns-in-Holds-clause-serves : goal.returns-in-Holds-clause-serves
returns-in-Holds-clause-serves g c clean office =
    read (state g.S.Store c.args.tx.now.conn.now).now (state g.S.Store c.holds.new.tx.conn.now).now (visit_on c.args.day c.args.caller.now) _ _ c.holds.result c.in-Holds.is (c.holds.ensures.serves clean office)

pub returns-in-DownloadBag-clause-serves : goal.returns-in-DownloadBag-clause-serves
returns-in-DownloadBag-clause-serves g c clean office =
    read (state g.S.Store c.args.tx.now.conn.now).now (state g.S.Store c.download_bag.new.tx.conn.now).now (visit_on c.args.day c.args.caller.now) _ _ c.download_bag.result c.in-DownloadBag.is (c.download_bag.ensures.serves clean office)

pub returns-in-DownloadFile-clause-serves : goal.returns-in-DownloadFile-clause-serves
returns-in-DownloadFile-clause-serves g c clean office =
    read (state g.S.Store c.args.tx.now.conn.now).now (state g.S.Store c.download_file.new.tx.conn.now).now (visit_on c.args.day c.args.caller.now) _ _ c.download_file.result c.in-DownloadFile.is (c.download_file.ensures.serves clean office)

pub returns-in-Audit-clause-serves : goal.returns-in-Audit-clause-serves
returns-in-Audit-clause-serves g c clean office =
    read (state g.S.Store c.args.tx.now.conn.now).now (state g.S.Store c.audit.new.tx.conn.now).now (visit_on c.args.day c.args.caller.now) _ _ c.audit.result c.in-Audit.is (c.audit.ensures.serves clean office)

pub returns-in-DueList-clause-serves : goal.returns-in-DueList-clause-serves
returns-in-DueList-clause-serves g c clean office =
    read (state g.S.Store c.args.tx.now.conn.now).now (state g.S.Store c.due_list.new.tx.conn.now).now (visit_on c.args.day c.args.caller.now) _ _ c.due_list.result c.in-DueList.is (c.due_list.ensures.serves clean office)
