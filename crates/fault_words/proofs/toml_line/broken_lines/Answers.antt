use Rattle.fault_words.proofs.Lemmas.{rules, ◌≡◌, ◌∙◌, ◌≤◌, false, length, ap, arith, first_lines, is_toml, broken_lines_are_some, first_lines-all}
use Rattle.fault_words.proofs.toml_line.broken_lines.Goals as goal

pub returns-then-branch-clause-broken : goal.returns-then-branch-clause-broken
returns-then-branch-clause-broken c =
    let bytes = c.args.bytes.now in
    let same : length bytes ≤ length bytes = omega arith in
    ap is_toml (first_lines-all (length bytes) bytes same) ∙ c.requires

pub returns-else-branch-clause-some : goal.returns-else-branch-clause-some
returns-else-branch-clause-some c =
    let broken : is_toml (first_lines c.args.named c.args.bytes.now) ≡ false = search rules in
    broken_lines_are_some c.args.named c.args.bytes.now broken
