use Rattle.bag_text.proofs.Lemmas.{says_path}
use Rattle.bag_text.proofs.listing.Manifest.lists.Goals as goal

pub returns-clause-lists : goal.returns-clause-lists
returns-clause-lists c = says_path c.args.self.now c.args.path.now c.contains_key.result c.contains_key.ensures
