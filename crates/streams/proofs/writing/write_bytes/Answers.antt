use Rattle.std.proofs.Common.{◌≡◌, ◌∙◌, ℕ, List, Bor, ap, drop, subst, sym}
use Rattle.std.proofs.lemmas.List.{take_rest}
use Rattle.streams.proofs.WritingLemmas.{HasTaken, more_taken, no_more_taken}
use Rattle.streams.proofs.writing.write_bytes.Goals as goal
use Rattle.streams.proofs.writing.write_bytes.Goals.{in-Ok, in-Err+else-ne}

pub writes-preserved : goal.writes-preserved
writes-preserved g c =
    elim c.match-write.branch [
      | in-Ok w ↦
          let left : c.match-write.rest.now ≡ drop w.in-Ok.count c.writes.rest.now = ap (λ (rest : Bor (List ℕ)). rest.now) w.rest-is ∙ take_rest c.writes.rest.now w.in-Ok.count in
          subst (λ (rest : List ℕ). HasTaken c.args.bytes.now rest (g.W.Write.contents c.args.writer.now) (g.W.Write.contents c.write.new.self)) (sym left)
          (more_taken _ _ _ _ _ w.in-Ok.count c.writes.invariant w.in-Ok.ensures.bytes)
      | in-Err+else-ne w ↦
          let left : c.match-write.rest.now ≡ c.writes.rest.now = ap (λ (rest : Bor (List ℕ)). rest.now) w.rest-is in
          subst (λ (rest : List ℕ). HasTaken c.args.bytes.now rest (g.W.Write.contents c.args.writer.now) (g.W.Write.contents c.write.new.self)) (sym left)
          (no_more_taken _ _ _ _ _ c.writes.invariant w.in-Err.ensures.bytes)
    ]
