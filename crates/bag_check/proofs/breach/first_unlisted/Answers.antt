use Rattle.bag_check.proofs.Lemmas.{◌∙◌, slice_index_or as get_or, ap, sym, [], Bor, List, ℕ, drop_more, files_of, file_of, unlisted, unlisted_here, unlisted_passed, unlisted_listed, found_by_bytes}
use Rattle.bag_check.proofs.breach.first_unlisted.Goals.{else-asks_for-via-then-asks_for+else-not-lists, else-asks_for-via-else-asks_for}
use Rattle.bag_check.proofs.breach.first_unlisted.Goals as goal

abbrev none : Bor (List ℕ) × Bor (List ℕ)
none = (record { ref_ptr = (0, 0); now = [] }, record { ref_ptr = (0, 0); now = [] })

pub returns-then-not-lists : goal.returns-then-not-lists
returns-then-not-lists c =
    let file = get_or c.args.files.now c.loop-file.file-index none in
    let is = ap files_of (drop_more c.args.files.now c.loop-file.file-index none c.loop-file-test.true) in
    let not_its = sym (c.lists.ensures.exact ∙ found_by_bytes c.args.manifest.now.entries.entries file.0.now) ∙ c.if-not-lists.true in
    unlisted_here c.args.rule c.args.manifest.now _ _ (file_of file) (unlisted c.args.rule c.args.manifest.now (files_of c.args.files.now)) is (sym c.asks_for.ensures ∙ c.if-asks_for.true) not_its c.loop-file.invariant

pub loop-file-preserved : goal.loop-file-preserved
loop-file-preserved c =
    let file = get_or c.args.files.now c.loop-file.file-index none in
    let is = ap files_of (drop_more c.args.files.now c.loop-file.file-index none c.loop-file-test.true) in
    elim c.else-asks_for.branch [
      | else-asks_for-via-then-asks_for+else-not-lists w ↦
          let its = sym (w.lists.ensures.exact ∙ found_by_bytes c.args.manifest.now.entries.entries file.0.now) ∙ w.if-not-lists.false in
          unlisted_listed c.args.rule c.args.manifest.now _ _ (file_of file) (unlisted c.args.rule c.args.manifest.now (files_of c.args.files.now)) is (sym c.asks_for.ensures ∙ w.if-asks_for.true) its c.loop-file.invariant
      | else-asks_for-via-else-asks_for w ↦
          unlisted_passed c.args.rule c.args.manifest.now _ _ (file_of file) (unlisted c.args.rule c.args.manifest.now (files_of c.args.files.now)) is (sym c.asks_for.ensures ∙ w.if-asks_for.false) c.loop-file.invariant
    ]
