use Rattle.bag_text.proofs.Lemmas.{◌∙◌, List, ap, sym, File, content_at, content_stands, content_found, content_missing, none_copied}
use Rattle.bag_text.proofs.set.BagSet.get.Goals as goal

pub returns-clause-found : goal.returns-clause-found
returns-clause-found c =
    let is = c.find_content.ensures ∙ ap (λ (fs : List File). content_at fs c.args.path.now) c.files.ensures.whole in
    λ content. (λ e. content_stands c.args.self.now c.args.path.now content (sym is ∙ e), λ at. is ∙ content_found _ c.args.self.now c.args.path.now content c.files.ensures.bag.ascending at)

pub returns-clause-none : goal.returns-clause-none
returns-clause-none c =
    let is = none_copied c.find_content.result (content_at c.args.self.now c.args.path.now) (c.find_content.ensures ∙ ap (λ (fs : List File). content_at fs c.args.path.now) c.files.ensures.whole) in
    let both = content_missing c.args.self.now c.args.path.now in
    (λ none. both.0 (sym is ∙ none), λ other. is ∙ both.1 other)
