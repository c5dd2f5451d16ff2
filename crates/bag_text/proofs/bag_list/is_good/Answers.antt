use Rattle.bag_text.proofs.Lemmas.{is_utf8-from_IsUtf8, text_is_good}
use Rattle.bag_text.proofs.bag_list.is_good.Goals as goal

-- A text is a good path where it has no fault.
pub returns : goal.returns
returns c = text_is_good c.args.path.now c.fault_of.result c.is_none.result (is_utf8-from_IsUtf8 c.args.path.now c.utf8.path) c.fault_of.ensures c.is_none.ensures
