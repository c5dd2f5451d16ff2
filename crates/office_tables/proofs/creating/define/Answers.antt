use Rattle.office_tables.proofs.Lemmas.{◌≡◌, ℕ, List, map, drop, slice_index_or as get_or, rules, subst, ◌+◌, ◌∷◌, Bor, at_drop_more, state, Builds, clean_first, none_called, turn_next}
use Rattle.sql_meaning.proofs.Creating.{makes_next}
use Rattle.sql_meaning.proofs.Growing.{grows_next, grown_none}
use Rattle.office_tables.proofs.creating.define.Goals as goal

pub loop-text-preserved : goal.loop-text-preserved
loop-text-preserved g c =
    let before = c.loop-text.invariant in
    let texts : List (Bor (List ℕ)) = c.args.texts.now in
    let words = λ (all : List (Bor (List ℕ))). map (λ (t : Bor (List ℕ)). t.now) all in
    let i = c.loop-text.text-index in
    let one : words (drop i texts) ≡ words (get_or texts i _ ∷ drop (i + 1) texts) = at_drop_more words texts i _ (search rules) in
    let ran = c.in_ok-change in
    let now = state g.S.Store c.loop-text.tx.conn.now in
    let new = state g.S.Store c.change.new.tx.conn.now in
    record {
      inside = turn_next before.inside ran.ensures.inside;
      made = λ clean first last builds blank.
          let there = before.made (clean_first ran.ensures.inside.stays clean) first last builds blank in
          let step = subst (λ (xs : List (List ℕ)). Builds there.0 xs last) one there.1 in
          (step.0, step.2, makes_next there.0 _ step.0 step.1 now new ran.field-0 there.2 (ran.ensures.ran clean));
      grown = λ clean first last builds whole.
          let there = before.grown (clean_first ran.ensures.inside.stays clean) first last builds whole in
          let step = subst (λ (xs : List (List ℕ)). Builds there.0 xs last) one there.1 in
          (step.0, step.2, grows_next first there.0 _ step.0 step.1 (state g.S.Store c.args.tx.now.conn.now).now now new ran.field-0 there.2 (ran.ensures.ran clean));
    }

pub loop-text-init : goal.loop-text-init
loop-text-init g c = record {
  inside = none_called _ tt;
  made = λ clean before after builds blank. (before, builds, blank);
  grown = λ clean before after builds whole. (before, builds, grown_none before _ whole.schema_is);
}
