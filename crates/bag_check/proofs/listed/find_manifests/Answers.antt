use Rattle.bag_check.proofs.Lemmas.{◌∙◌, ◌+◌, drop, slice_index_or as get_or, map, ap, [], Bor, List, ℕ, option_map, Ok, drop_more, drop_all, map_push, err_from_is_err_and, files_of, file_of, manifests_in, named_seen, named_fault, manifests_fail, manifests_take, manifests_skip, manifests_done}
use Rattle.bag_check.proofs.listed.find_manifests.Goals.{in-Some+in_ok-push, in_default}
use Rattle.bag_check.proofs.listed.find_manifests.Goals as goal

abbrev none : Bor (List ℕ) × Bor (List ℕ)
none = (record { ref_ptr = (0, 0); now = [] }, record { ref_ptr = (0, 0); now = [] })

pub returns-in_err-named : goal.returns-in_err-named
returns-in_err-named c =
    let p = err_from_is_err_and c.from_residual.result c.from_residual.ensures.1 in
    let is = ap files_of (drop_more c.args.files.now c.loop-file.file-index none c.loop-file-test.true) in
    rw (p.1, p.2) (manifests_fail (map named_seen c.loop-file.found.items) (files_of (drop c.loop-file.file-index c.args.files.now)) (files_of (drop (c.loop-file.file-index + 1) c.args.files.now)) (file_of (get_or c.args.files.now c.loop-file.file-index none)) (named_fault c.in_err-named.field-0.0) (manifests_in (files_of c.args.files.now)) is c.in_err-named.ensures c.loop-file.invariant)

pub loop-file-preserved : goal.loop-file-preserved
loop-file-preserved c =
    let is = ap files_of (drop_more c.args.files.now c.loop-file.file-index none c.loop-file-test.true) in
    elim c.match-branch-2.branch [
      | in-Some+in_ok-push w ↦
          let now = ap (λ v. map named_seen v.items) w.found-is ∙ ap (map named_seen) w.in_ok-push.ensures.items ∙ map_push named_seen c.loop-file.found.items w.in-Some.named in
          let found = c.in_ok-named.ensures ∙ ap (λ o. Ok (option_map named_seen o)) w.in-Some.is in
          manifests_take (map named_seen c.loop-file.found.items) (map named_seen c.match-branch-2.found.items) (files_of (drop c.loop-file.file-index c.args.files.now)) (files_of (drop (c.loop-file.file-index + 1) c.args.files.now)) (file_of (get_or c.args.files.now c.loop-file.file-index none)) (named_seen w.in-Some.named) (manifests_in (files_of c.args.files.now)) is found now c.loop-file.invariant
      | in_default w ↦
          let found = c.in_ok-named.ensures ∙ ap (λ o. Ok (option_map named_seen o)) w.in_default.is in
          rw w.found-is (manifests_skip (map named_seen c.loop-file.found.items) (files_of (drop c.loop-file.file-index c.args.files.now)) (files_of (drop (c.loop-file.file-index + 1) c.args.files.now)) (file_of (get_or c.args.files.now c.loop-file.file-index none)) (manifests_in (files_of c.args.files.now)) is found c.loop-file.invariant)
    ]

pub returns : goal.returns
returns c =
    let is = ap files_of (drop_all c.loop-file.file-index c.args.files.now c.loop-file-test.false) in
    manifests_done (map named_seen c.loop-file.found.items) (files_of (drop c.loop-file.file-index c.args.files.now)) (manifests_in (files_of c.args.files.now)) is c.loop-file.invariant
