use Rattle.bag_folders.proofs.Lemmas.{folder_of, filter_map_more}
use Rattle.bag_folders.proofs.making.needed_folders.Goals as goal

pub loop-file-preserved : goal.loop-file-preserved
loop-file-preserved c =
    filter_map_more (λ file. folder_of file.0.now) c.args.files.now c.loop-file.file-index _ _ _ c.loop-file-test.true c.loop-file.invariant c.in_ok-add_folder.ensures
