use Rattle.bag_folders.proofs.ListingLemmas.{told_of_some}
use Rattle.bag_folders.proofs.folders.FoldersUnderFolders.list.Goals as goal

pub returns-clause-listed : goal.returns-clause-listed
returns-clause-listed g c = told_of_some _ c.read_dir-names.result c.entries_of.result c.entries_of.ensures.failed c.entries_of.ensures.told
