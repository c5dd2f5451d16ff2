use Rattle.fault_words.proofs.Lemmas.{rules, ◌∙◌, sym, no_tree, tree_of_text}
use Rattle.toml.specs.Errors.{IsMemory}
use Rattle.fault_words.proofs.toml_line.tree_in.Goals as goal

pub returns-in-Ok : goal.returns-in-Ok
returns-in-Ok c = sym (tree_of_text c.args.bytes.now c.in-Ok.ensures.ok.0 ∙ c.in-Ok.ensures.ok.1)

pub returns-else-is_memory : goal.returns-else-is_memory
returns-else-is_memory c =
    let not_memory : ¬ (IsMemory c.in-Err.error) = search rules in
    sym (no_tree c.args.bytes.now (λ utf8. c.in-Err.ensures.refused not_memory utf8))
