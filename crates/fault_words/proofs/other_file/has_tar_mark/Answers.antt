use Rattle.fault_words.proofs.Common.{ℕ, false, List, ◌≡◌, ◌∙◌, sym, ap, length, nat_lt, arith, codes, nat_tests}
use Rattle.std.proofs.lemmas.List.{at_drop_all, take_rest}
use Rattle.fault_words.specs.OtherFiles.{begins}
use Rattle.fault_words.proofs.other_file.has_tar_mark.Goals as goal

pub returns-then-bytes-gt257 : goal.returns-then-bytes-gt257
returns-then-bytes-gt257 c = c.starts_with.ensures.value ∙ ap (λ (bs : List ℕ). begins bs (codes "ustar")) (take_rest c.args.bytes.now 257)

-- bytes that end before have no such mark
pub returns-else-bytes-gt257 : goal.returns-else-bytes-gt257
returns-else-bytes-gt257 c =
    let short : nat_lt 257 (length c.args.bytes.now) ≡ false = grind (arith, nat_tests) in
    short ∙ sym (at_drop_all (λ (bs : List ℕ). begins bs (codes "ustar")) c.args.bytes.now 257 c.if-bytes-gt257.false)
