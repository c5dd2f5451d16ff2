use Rattle.bag_text.proofs.Lemmas.{◌≡◌, ◌<◌, ◌∙◌, sym, ap, subst, List, length, ℕ, arith, nat_tests, pairs_of, skipped_text, more_than_blanks, no_rest, add_continued, marked_more, pair_feed}
use Rattle.bag_text.proofs.InfoLemmas.{add_blank}
use Rattle.bag_text.proofs.info.add_line.Goals as goal

pub returns-then-is_empty-clause-value : goal.returns-then-is_empty-clause-value
returns-then-is_empty-clause-value c =
    let none : length c.without_first_blanks-rest.result.now ≡ 0 = grind (arith, nat_tests) in
    add_blank c.args.number (pairs_of c.args.pairs.now.items) c.args.line.now (no_rest c.args.line.now (ap length (sym c.without_first_blanks-rest.ensures) ∙ none))

pub text_of-requires : goal.text_of-requires
text_of-requires c = rw c.without_first_blanks-rest.ensures (skipped_text c.args.line.now c.requires)

pub returns-then-is_continuation-clause-value : goal.returns-then-is_continuation-clause-value
returns-then-is_continuation-clause-value c =
    let some : 0 < length c.without_first_blanks-rest.result.now = grind (arith, nat_tests) in
    let full = more_than_blanks c.args.line.now (subst (λ (t : List ℕ). 0 < length t) c.without_first_blanks-rest.ensures some) in
    let added = add_continued c.args.number (pairs_of c.args.pairs.now.items) c.args.line.now full (sym c.is_continuation.ensures ∙ c.if-is_continuation.true) in
    rw (added, ← c.without_first_blanks-rest.ensures, ← c.text_of.ensures) c.continue_last.ensures.value

pub returns-clause-marked : goal.returns-clause-marked
returns-clause-marked c =
    λ no_end all. marked_more c.args.pairs.now.items c.push.new.self.items _ c.in-Ok.ensures.items (sym (pair_feed c.args.number c.args.line.now _ c.in_ok-label.ensures no_end)) all
