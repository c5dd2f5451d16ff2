use Rattle.bag_check.proofs.Lemmas.{subst, HasEntry, lists_sha256}
use Rattle.bag_check.proofs.digests.listed_digest.Goals as goal

pub returns-in-Sha256-clause-listed : goal.returns-in-Sha256-clause-listed
returns-in-Sha256-clause-listed c =
    let listing = c.in_ok-digest.field-0 in
    let manifest = c.args.listed.now.manifest in
    lists_sha256 manifest c.args.path.now c.in-Sha256.digest listing.line (subst (λ sum. HasEntry manifest c.args.path.now sum listing.line) c.in-Sha256.is c.in_ok-digest.ensures.entry)
