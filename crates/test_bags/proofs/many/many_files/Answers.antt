use Rattle.std.proofs.Common.{◌∙◌, ap, codes, ℕ, ◌++◌, ◌∷◌, []}
use Rattle.std.specs.Fmt.{styled_decimal}
use Rattle.test_bags.proofs.ManyLemmas.{grows}
use Rattle.test_bags.proofs.many.many_files.Goals as goal

pub loop-number-preserved : goal.loop-number-preserved
loop-number-preserved c =
    let n : ℕ = c.loop-number.number-counter in
    grows n _ _ _ c.loop-number.invariant
    (c.as_bytes.ensures.value ∙ c.in_ok-entry.ensures.ok ∙ ap (λ spec. codes "FILE 4 0\n" ++ (styled_decimal spec n ++ 10 ∷ [])) c.laid_out.ensures)
    c.in_ok-extend_from_slice-2.ensures.items
