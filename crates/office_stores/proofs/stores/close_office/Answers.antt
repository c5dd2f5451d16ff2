use Rattle.office_stores.proofs.FileLemmas.{closed_after}
use Rattle.office_stores.proofs.stores.close_office.Goals as goal

pub returns-in-Ok : goal.returns-in-Ok
returns-in-Ok g c = closed_after g.D.Disk c.args.office c.into_connection.result c.close_files.result c.in-Ok.field-0 c.args.done c.in-Ok.ensures.files c.into_connection.ensures.same c.close_files.ensures.copied
