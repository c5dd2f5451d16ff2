use Rattle.bag_text.proofs.Lemmas.{nothing_behind, something_behind}
use Rattle.bag_text.proofs.info.split_colon.Goals as goal

pub returns-in-empty : goal.returns-in-empty
returns-in-empty c = nothing_behind c.args.line.now c.split_at.result.1.now c.label_len.result c.label_len.ensures c.split_at.ensures.back c.in-empty.len_below

pub returns-in-len1-up : goal.returns-in-len1-up
returns-in-len1-up c = something_behind c.args.line.now c.split_at.result.0.now c.split_at.result.1.now c.label_len.result c.label_len.ensures c.split_at.ensures.front c.split_at.ensures.back c.in-len1-up.len_at_least
