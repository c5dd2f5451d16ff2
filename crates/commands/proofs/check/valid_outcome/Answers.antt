use Rattle.commands.proofs.Lemmas.{rules, ◌≡◌, ◌++◌, ◌∷◌, [], refl, string_bytes, codes, decimal, pieces}
use Rattle.bag_text.specs.Declaration.{version_text}
use Rattle.commands.proofs.check.valid_outcome.Goals as goal

pub returns : goal.returns
returns c =
    let front : string_bytes c.in_ok-text.text ≡ codes "valid " ++ version_text c.args.report.version = search rules in
    let files : string_bytes c.write.new.self ≡ string_bytes c.in_ok-text.text ++ (codes " files " ++ decimal c.args.report.files) = search rules in
    let bytes : string_bytes c.write-2.new.self ≡ string_bytes c.write.new.self ++ (codes " bytes " ++ decimal c.args.report.bytes) = search rules in
    let manifests : string_bytes c.write-3.new.self ≡ string_bytes c.write-2.new.self ++ (codes " manifests " ++ decimal c.args.report.manifests ++ 10 ∷ []) = search rules in
    (rw (manifests, bytes, files, front) (pieces (codes "valid " ++ version_text c.args.report.version) (codes " files ") (decimal c.args.report.files) (codes " bytes ") (decimal c.args.report.bytes) (codes " manifests ") (decimal c.args.report.manifests) (10 ∷ [])), refl, refl)
