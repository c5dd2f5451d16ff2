use Rattle.bag_text.proofs.Lemmas.{ap, option_map, was_cut, label_text, value_text}
use Rattle.bag_text.proofs.info.read_pair.Goals as goal

-- a label is text
pub text_of-requires : goal.text_of-requires
text_of-requires c =
    let cut = was_cut c.args.line.now _ c.in-Some.before.now c.in-Some.after.now c.split_colon.ensures (ap (option_map (λ x. (x.0.now, x.1.now))) c.in-Some.is) in
    rw c.without_last_blanks-label.ensures (label_text c.args.line.now c.in-Some.before.now c.in-Some.after.now c.requires cut)

-- a value is text
pub text_of-requires-2 : goal.text_of-requires-2
text_of-requires-2 c =
    let cut = was_cut c.args.line.now _ c.in-Some.before.now c.in-Some.after.now c.split_colon.ensures (ap (option_map (λ x. (x.0.now, x.1.now))) c.in-Some.is) in
    rw c.without_first_blanks.ensures (value_text c.args.line.now c.in-Some.before.now c.in-Some.after.now c.requires cut)
