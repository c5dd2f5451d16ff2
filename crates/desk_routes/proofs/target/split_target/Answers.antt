use Rattle.desk_routes.proofs.Common.{◌≡◌, ◌==◌, ◌∙◌, ◌+◌, ℕ, Some, None, sym, arith, length, position_or_len, take_all, drop_all}
use Rattle.std.proofs.lemmas.Str.Pattern.{split_once_first}
use Rattle.desk_routes.proofs.TargetLemmas.{path-before, query-after}
use Rattle.desk_routes.proofs.target.split_target.Goals as goal

pub returns-in-Some-clause-path : goal.returns-in-Some-clause-path
returns-in-Some-clause-path c =
    let h = split_once_first 63 c.args.target.now (Some (c.in-Some.path, c.in-Some.query)) c.in-Some.ensures.cases (omega arith) in
    h.1 ∙ path-before c.args.target.now

pub returns-in-Some-clause-query : goal.returns-in-Some-clause-query
returns-in-Some-clause-query c =
    let h = split_once_first 63 c.args.target.now (Some (c.in-Some.path, c.in-Some.query)) c.in-Some.ensures.cases (omega arith) in
    h.2 ∙ query-after c.args.target.now

pub returns-in-None-clause-path : goal.returns-in-None-clause-path
returns-in-None-clause-path c =
    let target = c.args.target.now in
    let whole : position_or_len (λ (b : ℕ). b == 63) target ≡ length target = split_once_first 63 target None c.in-None.ensures.cases (omega arith) in
    sym (take_all (position_or_len (λ (b : ℕ). b == 63) target) target (omega arith)) ∙ path-before target

pub returns-in-None-clause-query : goal.returns-in-None-clause-query
returns-in-None-clause-query c =
    let target = c.args.target.now in
    let whole : position_or_len (λ (b : ℕ). b == 63) target ≡ length target = split_once_first 63 target None c.in-None.ensures.cases (omega arith) in
    sym (drop_all (position_or_len (λ (b : ℕ). b == 63) target + 1) target (omega arith)) ∙ query-after target
