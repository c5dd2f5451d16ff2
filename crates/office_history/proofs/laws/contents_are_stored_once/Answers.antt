use Rattle.office_history.proofs.Lemmas.{map, flat_map, kept_numbers, files_of, kept_content, content_kept}
use Rattle.office_history.proofs.MemberLemmas.{first_places_once}
use Rattle.office_history.proofs.laws.contents_are_stored_once.Goals as goal

pub returns-clause-exactly : goal.returns-clause-exactly
returns-clause-exactly c = λ h content. (content_kept h content, kept_content h content)

pub returns-clause-once : goal.returns-clause-once
returns-clause-once c = λ h. first_places_once (map (λ file. file.content) (flat_map (files_of h) (kept_numbers h)))
