use Rattle.bag_check.proofs.Lemmas.{◌∙◌, ◌+◌, drop, slice_index_or as get_or, sym, ap, [], arith, Bor, List, ℕ, drop_more, files_of, file_of, few_payload, small_payload, count_take}
use Rattle.bag_check.proofs.payload.count_files.Goals as goal

abbrev none : Bor (List ℕ) × Bor (List ℕ)
none = (record { ref_ptr = (0, 0); now = [] }, record { ref_ptr = (0, 0); now = [] })

pub overflow_add-count : goal.overflow_add-count
overflow_add-count c =
    let few = few_payload (files_of c.args.files.now) in
    let most = c.requires.few in
    let so_far = c.loop-file.invariant.0 in
    omega arith

pub overflow_add-bytes : goal.overflow_add-bytes
overflow_add-bytes c =
    let is = ap files_of (drop_more c.args.files.now c.loop-file.file-index none c.loop-file-test.true) in
    let one = count_take (files_of (drop c.loop-file.file-index c.args.files.now)) (files_of (drop (c.loop-file.file-index + 1) c.args.files.now)) (file_of (get_or c.args.files.now c.loop-file.file-index none)) is (sym c.is_payload_path.ensures ∙ c.if-is_payload_path.true) in
    let small = small_payload (files_of c.args.files.now) c.requires.each in
    let most = c.requires.few in
    let so_far = c.loop-file.invariant.1 in
    let bytes = one.1 in
    omega arith
