use Rattle.bag_check.proofs.Lemmas.{◌≡◌, ◌∙◌, ap, sym, map, length, Ok, length-map, listings_in, obeys, listing_rules, obeys_contents, payload_files, payload_bytes, listed_seen, report_seen, judged, fixity_kept}
use Rattle.bag_check.proofs.check.judge_files.Goals as goal

pub returns-clause-fixity : goal.returns-clause-fixity
returns-clause-fixity c = fixity_kept c.args.bag.now (map listed_seen c.in_ok-listed.listed.items) tt (rw (← c.deref-2.ensures.value) c.in_ok-check_contents.ensures)

pub returns-clause-exact : goal.returns-clause-exact
returns-clause-exact c =
    let read : listings_in c.in_ok-version.version c.args.bag.now ≡ Ok (map listed_seen c.in_ok-listed.listed.items) = rw (← c.requires) c.in_ok-listed.ensures in
    let kept : obeys c.args.bag.now (map listed_seen c.in_ok-listed.listed.items) listing_rules ≡ Ok tt = rw (← c.deref.ensures.value) c.in_ok-check_listing_rules.ensures in
    let contents : obeys_contents c.args.bag.now (map listed_seen c.in_ok-listed.listed.items) ≡ Ok tt = rw (← c.deref-2.ensures.value) c.in_ok-check_contents.ensures in
    let count : c.len.result ≡ length (map listed_seen c.in_ok-listed.listed.items) = c.len.ensures ∙ c.in_ok-listed.listed.ok.0 ∙ sym (length-map c.in_ok-listed.listed.items listed_seen) in
    judged c.args.bag.now c.in_ok-version.version tt _ (report_seen c.report_on-report.result) c.in_ok-version.ensures c.in_ok-refuse_fetch.ensures read kept contents
    (c.report_on-report.ensures ∙ ap (λ n. record { version = c.in_ok-version.version; files = payload_files c.args.bag.now; bytes = payload_bytes c.args.bag.now; manifests = n }) count)
