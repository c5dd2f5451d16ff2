use Rattle.bag_folders.proofs.Common.{◌≡◌, ◌+◌, length, rules}
use Rattle.bag_folders.proofs.ReadingLemmas.{some_behind}
use Rattle.bag_folders.proofs.loading.append_content.Goals as goal

pub returns-else-count-size-clause-size : goal.returns-else-count-size-clause-size
returns-else-count-size-clause-size g c =
    let grown : length c.read_to_end.new.buf.items ≡ length c.args.form.now.items + c.in-Ok.count = search rules in
    let same : c.in-Ok.count ≡ c.args.size = search rules in
    some_behind c.args.form.now.items c.read_to_end.new.buf.items c.in-Ok.count c.args.size c.in-Ok.ensures.appends grown same
