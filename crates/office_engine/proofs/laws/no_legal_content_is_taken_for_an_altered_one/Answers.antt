use Rattle.office_engine.proofs.Common.{ap, ◌∙◌, after, answer, picture, this_version, serve}
use Rattle.office_engine.proofs.ServedWhole.{told_whole}
use Rattle.office_engine.proofs.laws.no_legal_content_is_taken_for_an_altered_one.Goals as goal

pub returns : goal.returns
returns c db h visit request legal pictured =
    told_whole db pictured.office (λ n path f there. c.files_have_their_contents.ensures.intact db pictured.office pictured.once n path f there) visit request (answer h visit.day visit.caller request)
    (picture this_version (after h visit.day visit.caller request)) (ap (λ t. serve t visit request) pictured.are ∙ c.requests_are_exact.ensures h visit request legal)
