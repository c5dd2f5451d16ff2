use Rattle.bag_text.proofs.Lemmas.{◌≡◌, ap, rules, is_some, listing_at, listing_is_entry, says_path}
use Rattle.bag_text.proofs.listing.Manifest.get.Goals as goal

pub returns-clause-entry : goal.returns-clause-entry
returns-clause-entry c =
    let exact : c.copied.result ≡ listing_at c.args.path.now c.args.self.now = search rules in
    listing_is_entry c.args.self.now c.args.path.now c.copied.result exact

pub returns-clause-found : goal.returns-clause-found
returns-clause-found c =
    let exact : c.copied.result ≡ listing_at c.args.path.now c.args.self.now = search rules in
    says_path c.args.self.now c.args.path.now (is_some c.copied.result) (ap is_some exact)
