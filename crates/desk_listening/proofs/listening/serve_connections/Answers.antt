use Rattle.desk_listening.proofs.Common.{bool_byte, ◌≡◌, ◌+◌, ◌∷◌, ◌++◌, [], ◌∙◌, ap, subst, sym, refl, arith, length_push, log_of, Watch, more_lines, no_line, connections_after, IsAfterAll, lines_of, Treats}
use Rattle.desk_log.specs.Lines.{end_line}
use Rattle.desk_listening.proofs.Connections.{counted, is_run, one_more, small, takes_more}
use Rattle.desk_listening.proofs.Lines.{lines_more, no_end, watch_more}
use Rattle.desk_listening.proofs.listening.serve_connections.Goals as goal

pub loop-taken-init : goal.loop-taken-init
loop-taken-init g c = record {
  came = ([], refl, refl, refl, refl, c.new-watch.ensures.watch, no_line (log_of g.E.Write c.args.log.now));
  few = omega arith;
  counted = c.new-watch.ensures.counted;
  number = ap (λ (w : Watch). w.connections) c.new-watch.ensures.watch;
}

pub loop-taken-preserved : goal.loop-taken-preserved
loop-taken-preserved g c =
    let came = c.loop-taken.invariant.came in
    let one = c.in-Ok.ensures.served in
    let added : c.from-answered.result ≡ bool_byte c.in-Ok.next.answered = c.from-answered.ensures in
    let treats = Treats (record { peer = g.P.Peer; reads = g.P.Reader.Read; writes = g.P.Writer.Write }) c.args.patience.now in
    record {
      came = (
        came.0 ++ one.0 ∷ [],
        length_push came.0 one.0 ∙ ap (λ n. n + 1) came.1,
        counted came.0 one.0 c.loop-taken.answered c.in-Ok.next.answered one.1 came.2 ∙ ap (λ n. c.loop-taken.answered + n) (sym added),
        one_more g.S.Store c.args.day came.0 one.0 c.args.office.now c.loop-taken.office c.serve_next.new.office came.3 one.3,
        takes_more g.L.Listener treats came.0 one.0 c.args.listener.now c.loop-taken.listener c.serve_next.new.listener came.4 one.4,
        watch_more came.0 one.0 c.loop-taken.watch c.tell-watch.result c.in-Ok.next.note came.5 one.2 c.tell-watch.ensures.watch,
        lines_more came.0 one.0 c.loop-taken.watch c.in-Ok.next.note (log_of g.E.Write c.args.log.now) (log_of g.E.Write c.loop-taken.log) (log_of g.E.Write c.tell-watch.new.log) came.5 one.2 came.6 c.tell-watch.ensures.told,
      );
      few = omega (arith, c.loop-taken.invariant.few, added, small c.in-Ok.next.answered);
      counted = c.tell-watch.ensures.counted;
      number = ap (λ (w : Watch). w.connections) c.tell-watch.ensures.watch ∙ connections_after c.loop-taken.watch c.in-Ok.next.note ∙ ap (λ n. n + 1) c.loop-taken.invariant.number;
    }

pub returns-in-Err-clause-served : goal.returns-in-Err-clause-served
returns-in-Err-clause-served g c =
    let came = c.loop-taken.invariant.came in
    let last = c.in-Err.ensures in
    let after = subst (λ (x : _). IsAfterAll g.S.Store c.args.day came.0 c.args.office.now x) (sym last.same) came.3 in (
      came.0,
      c.loop-taken.listener,
      (omega (arith, came.1, c.loop-taken.invariant.few), came.2),
      after,
      is_run g.S.Store c.args.day came.0 c.args.office.now c.serve_next.new.office after,
      came.4,
      (last.accepts, last.failed),
      no_end (lines_of came.0) (log_of g.E.Write c.args.log.now) (log_of g.E.Write c.loop-taken.log) came.6,
    )

pub returns-clause-served : goal.returns-clause-served
returns-clause-served g c =
    let came = c.loop-taken.invariant.came in
    let all : c.loop-taken.taken ≡ c.args.count = omega (arith, c.loop-taken-test.false, c.loop-taken.auto.taken-end) in (
      came.0,
      c.loop-taken.listener,
      (omega (arith, came.1, all, c.loop-taken.invariant.few), came.2),
      came.3,
      is_run g.S.Store c.args.day came.0 c.args.office.now c.loop-taken.office came.3,
      came.4,
      refl,
      more_lines (lines_of came.0) (end_line c.args.count ∷ []) (log_of g.E.Write c.args.log.now) (log_of g.E.Write c.loop-taken.log) (log_of g.E.Write c.tell_end.new.log) came.6 c.tell_end.ensures,
    )
