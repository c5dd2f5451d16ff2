use Rattle.desk_listening.proofs.Common.{rules, ◌≡◌, ℕ, List, ◌++◌, ◌+◌, ◌-◌, ◌<◌, ◌≤◌, length, take, arith, length-append, length-take}
use Rattle.std.proofs.KnownBytes.{Consumes-trans}
use Rattle.desk_listening.proofs.draining.drain.Goals as goal

-- what came so far, and what comes in one more read
more_length : (xs buf : List ℕ) (dropped n : ℕ) → length xs ≡ dropped → n ≡ length (take n buf) → length (xs ++ take n buf) ≡ dropped + n
more_length xs buf dropped n so_far part = simp length-append (omega arith)

-- a read gives no more than there is room for
still_few : (most dropped room n : ℕ) → dropped < most → room ≤ most - dropped → n ≤ room → dropped + n ≤ most
still_few most dropped room n here fits few = omega arith

pub drops-preserved : goal.drops-preserved
drops-preserved g c =
    let came = c.drops.invariant.given in
    let part = take c.in-Ok.n c.read.new.buf in
    record {
      given = (came.0 ++ part, Consumes-trans _ _ _ came.0 part came.1 c.in-Ok.ensures.bytes.0, more_length came.0 c.read.new.buf c.drops.dropped c.in-Ok.n came.2 c.in-Ok.ensures.bound.1);
      few = still_few c.args.most c.drops.dropped c.min-room.result c.in-Ok.n c.drops-test.true (omega (arith, c.min-room.ensures)) (grind (arith, length-take, c.in-Ok.ensures.bound.0, c.read.auto.buf));
      failures = search rules;
    }
