use Rattle.bag_folders.proofs.said.files_reason.Goals as goal

pub returns-in-Some : goal.returns-in-Some
returns-in-Some c = rw (c.in-Some.is, ← c.as_str.ensures.value) c.file_reason.ensures
