use Rattle.office_access.proofs.Lemmas.{rules, ◌≡◌, ◌↔◌, Some, None, option_map, pos, refl, sym, ap, subst, ◌∙◌, inl, inr, true≢false, IfErr, cases_Bool, none-some, IfErr-weaker, is_matter, LiveHold, Memory, Store, day_numbered, hold_by, scope_of, target_named, target_of, hold_told, some_read, names_nothing, no_matter, no_scope}
use Rattle.office_access.proofs.holds.hold_in.Goals as goal

not_store : Memory ≡ Store → ⊥
not_store e = absurd cc

pub returns-in_err-named-clause-store : goal.returns-in_err-named-clause-store
returns-in_err-named-clause-store c =
    let row = c.args.row.now in
    let deposit : row.deposit ≡ option_map pos c.row.inside.deposit = search rules in
    let untold : target_of row ≡ None = search rules in
    let unnamed = no_scope c.row.inside.deposit row.collection row.class (subst (λ d. target_named d row.collection row.class ≡ None) deposit untold) in
    let none = names_nothing row (subst (λ d. scope_of d row.collection row.class ≡ None) (sym deposit) unnamed) in
    let gives : IfErr c.from_residual.result (λ fault. fault ≡ Store) = search rules in
    IfErr-weaker c.from_residual.result _ _ (λ fault e. (λ is. none, λ untold. e)) gives

pub returns-in_err-text_of_kind-clause-store : goal.returns-in_err-text_of_kind-clause-store
returns-in_err-text_of_kind-clause-store c =
    let row = c.args.row.now in
    let text : c.deref.result.now ≡ row.matter = search rules in
    let deposit = c.in_ok-named.ensures.deposit in
    let collection = c.in_ok-named.ensures.collection in
    let class = c.in_ok-named.ensures.class in
    let number : pos c.row.inside.number ≡ row.number = search rules in
    let on : scope_of row.deposit row.collection row.class ≡ Some c.scope_of-on.result = sym (c.scope_of-on.ensures ∙ (λ i. scope_of (deposit i) (collection i) (class i))) in
    let placed : day_numbered row.placed ≡ Some c.in_ok-placed.placed = some_read (day_numbered row.placed) Store c.in_ok-placed.placed (search rules) in
    let failed : c.in_err-text_of_kind.field-0.0 ≡ Store ↔ hold_by row ≡ None = elim (cases_Bool (is_matter row.matter)) [
      | inl kind ↦ (
          let memory : c.in_err-text_of_kind.field-0.0 ≡ Memory = (let it = c.text_of_kind.ensures.memory (ap is_matter text ∙ kind) in search (rules, it)) in
          let told : LiveHold = record { number = c.row.inside.number; matter = row.matter; on = c.scope_of-on.result; placed = c.in_ok-placed.placed } in
          let is = hold_told row told number on placed refl kind in
          (λ store. absurd (not_store (sym memory ∙ store)), λ none. absurd (none-some told (sym none ∙ is)))
          )
      | inr isnt ↦ (
          let store : c.in_err-text_of_kind.field-0.0 ≡ Store = (let it = c.text_of_kind.ensures.store (λ kind. true≢false (sym kind ∙ ap is_matter text ∙ isnt)) in search (rules, it)) in
          (λ is. no_matter row isnt, λ none. store)
          )
    ] in
    let gives : IfErr c.from_residual-in_err-text_of_kind.result (λ fault. fault ≡ c.in_err-text_of_kind.field-0.0) = search rules in
    IfErr-weaker c.from_residual-in_err-text_of_kind.result _ _ (λ fault e. (λ is. failed.0 (sym e ∙ is), λ none. e ∙ failed.1 none)) gives
