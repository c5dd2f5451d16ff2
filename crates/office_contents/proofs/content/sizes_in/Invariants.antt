use Rattle.office_contents.proofs.Common.{◌≡◌, ℤ, map, take, int_at}
use Rattle.office_contents.proofs.content.sizes_in.Given as goal

abbrev pub invariant-loop-row : goal.invariant-loop-row
invariant-loop-row l = map {B = ℤ × ℤ} (λ s. (s.id, s.size)) l.sizes.items ≡ map {B = ℤ × ℤ} (λ row. (int_at row 0, int_at row 1)) (take l.row-index l.rows)
