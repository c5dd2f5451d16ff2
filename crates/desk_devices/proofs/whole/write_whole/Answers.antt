use Rattle.std.proofs.Common.{◌≡◌, ℕ, List, ◌++◌, ◌+◌, ◌-◌, ◌≤◌, ◌<◌, length, take, drop, sym, ap, subst, ◌∙◌, arith, take_all, length-drop, Bool, false, cond, ◌&&◌, ◌==◌, refl}
use Rattle.std.proofs.lemmas.Bool.Decides.{nat_tests}
use Rattle.std.specs.Io.KnownBytes.{Appends}
use Rattle.std.proofs.KnownBytes.{Appends-trans}
use lib.Seq.{take-add}
use Rattle.desk_devices.proofs.whole.write_whole.Goals as goal

part_of : (b : List ℕ) (at n : ℕ) → take at b ++ take n (take (length b - at) (drop at b)) ≡ take (at + n) b
part_of b at n = ap (λ l. take at b ++ take n l) (take_all (length b - at) (drop at b) (simp length-drop (omega arith))) ∙ sym (take-add at n b)

part_within : (b : List ℕ) (at n : ℕ) → at < length b → n ≤ length (take (length b - at) (drop at b)) → at + n ≤ length b
part_within b at n here fits = let t : length (take (length b - at) (drop at b)) ≡ length b - at = ap length (take_all (length b - at) (drop at b) (simp length-drop (omega arith))) ∙ length-drop at b in omega arith

-- a write that took something is no failure
took_some : (n : ℕ) (b : Bool) (more old : ℕ) → 0 < n → cond (n == 0 && b) more old ≡ old
took_some n b more old some = let e : n == 0 ≡ false = grind (arith, nat_tests) in rw e refl

pub writes-preserved : goal.writes-preserved
writes-preserved g c = record {
  within = part_within c.args.bytes.now c.writes.at c.in-Ok.n c.writes-test.true c.in-Ok.ensures.bound;
  written = subst (Appends _ _) (part_of c.args.bytes.now c.writes.at c.in-Ok.n) (Appends-trans _ _ _ _ _ c.writes.invariant.written c.in-Ok.ensures.bytes);
  failures = c.in-Ok.ensures.counted ∙ took_some c.in-Ok.n _ _ _ c.if-n-gt0.true ∙ c.writes.invariant.failures;
}
