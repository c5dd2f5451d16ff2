use Rattle.bag_text.proofs.Lemmas.{read_is_manifest, manifest_is_read, refused_is_fault, fault_is_refused, entries_iff}
use Rattle.bag_text.proofs.laws.manifests.Goals as goal

pub returns-clause-read : goal.returns-clause-read
returns-clause-read c = λ v a text. (λ r. read_is_manifest v a text r.0 r.1, manifest_is_read v a text)

pub returns-clause-first : goal.returns-clause-first
returns-clause-first c = λ v a text fault. (refused_is_fault v a text fault, fault_is_refused v a text fault)

pub returns-clause-listed : goal.returns-clause-listed
returns-clause-listed c = entries_iff
