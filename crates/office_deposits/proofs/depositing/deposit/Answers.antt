use Rattle.office_deposits.proofs.Lemmas.{◌≡◌, w64, List, Option, Some, Ok, refl, sym, ap, subst, ◌∙◌, rules, SFits, to_z-of_z, state, Refusal, Tables, tables_of, none_first, one_first, office_still, told_before, clean_first, inside_after, inside_failed, inside_then, result_err, IfOk, option_map, digests_of, bag_of, allowed_rows, years_of_number, first_told, highest_deposit, number_after, refusals_before_the_bag, refusals_of_the_bag, contents_after, contents_in, files_if_bag, with_contents_of, allowed_by, refused_by, rewritten_after, rewritten_as, request_of, row_of, visit_of, stored_with_due, years_shown, DepositDetails, due_read, next_kept}
use Rattle.office_core.specs.declared.answer.Answer.TheVariants as answers
use Rattle.office_contents.specs.declared.fault.TableFault.TheVariants.{Store}
use Rattle.office_access.proofs.RowsRead.{some_read}
use Rattle.office_deposits.proofs.depositing.deposit.Goals as goal

pub store_deposit-requires : goal.store_deposit-requires
store_deposit-requires g c = c.deref.ensures.value ∙ subst (λ new. IfOk new (λ new. new.digests.items ≡ digests_of new.bag)) c.in-Ok-2.is c.in_ok-new.ensures.digests

pub returns-in_err-new-clause-inside : goal.returns-in_err-new-clause-inside
returns-in_err-new-clause-inside g c = inside_failed c.in_ok-years.ensures.inside c.numbered_bag.ensures.inside _ (search rules) (search rules)

pub returns-in-Err-2-clause-inside : goal.returns-in-Err-2-clause-inside
returns-in-Err-2-clause-inside g c = inside_after c.in_ok-years.ensures.inside c.in_ok-new.ensures.inside _ (search rules)

pub returns-in_err-years_numbered-clause-inside : goal.returns-in_err-years_numbered-clause-inside
returns-in_err-years_numbered-clause-inside g c = inside_after c.in_ok-years.ensures.inside c.in_ok-new.ensures.inside _ (search rules)

pub returns-in_err-store_deposit-clause-inside : goal.returns-in_err-store_deposit-clause-inside
returns-in_err-store_deposit-clause-inside g c = inside_failed (inside_then c.in_ok-years.ensures.inside c.in_ok-new.ensures.inside) c.store_deposit.ensures.inside _ (search rules) (search rules)

pub returns-clause-inside : goal.returns-clause-inside
returns-clause-inside g c = inside_after (inside_then c.in_ok-years.ensures.inside c.in_ok-new.ensures.inside) c.in_ok-store_deposit.ensures.inside _ (search rules)

-- what is asked before the bag
abbrev before : DepositDetails → Tables → List (Option (Option Refusal))
before q t = refusals_before_the_bag t (visit_of q) q.description.now

pub returns-in-Err-clause-serves : goal.returns-in-Err-clause-serves
returns-in-Err-clause-serves g c clean office =
    let q = c.args.details.now in
    let t = tables_of (state g.S.Store c.args.tx.now.conn.now).now in
    let first = c.in_ok-years.ensures.reads clean office in
    refused_by (visit_of q) (request_of q c.args.bag) c.in-Err.why office first.0 (one_first (before q t) (refusals_of_the_bag t c.args.bag.now) c.in-Err.why (first.1.0 ∙ ap (λ given. Some (result_err given)) c.in-Err.is))

pub returns-in-Err-2-clause-serves : goal.returns-in-Err-2-clause-serves
returns-in-Err-2-clause-serves g c clean office =
    let q = c.args.details.now in
    let text = c.args.bag in
    let t = tables_of (state g.S.Store c.args.tx.now.conn.now).now in
    let first = c.in_ok-years.ensures.reads (clean_first c.in_ok-new.ensures.inside.stays clean) office in
    let second = c.in_ok-new.ensures.reads clean (office_still first.0 office) in
    let free = none_first (before q t) (refusals_of_the_bag t text.now) (first.1.0 ∙ ap (λ given. Some (result_err given)) c.in-Ok.is) in
    let told = told_before first.0 (λ t. first_told (refusals_of_the_bag t text.now) ≡ Some (result_err c.in_ok-new.field-0)) second.1.0 in
    refused_by (visit_of q) (request_of q text) c.in-Err-2.why office (second.0 ∙ first.0) (free ∙ told ∙ ap (λ new. Some (result_err new)) c.in-Err-2.is)

pub returns-clause-serves : goal.returns-clause-serves
returns-clause-serves g c clean office =
    let q = c.args.details.now in
    let text = c.args.bag in
    let t = tables_of (state g.S.Store c.args.tx.now.conn.now).now in
    let n = c.in-Ok-2.new.number in
    let bag = c.in-Ok-2.new.bag in
    let years = c.in_ok-years_numbered.field-0 in
    let early = clean_first c.store_deposit.ensures.inside.stays clean in
    let first = c.in_ok-years.ensures.reads (clean_first c.in_ok-new.ensures.inside.stays early) office in
    let second = c.in_ok-new.ensures.reads early (office_still first.0 office) in
    let same = second.0 ∙ first.0 in
    let free = none_first (before q t) (refusals_of_the_bag t text.now) (first.1.0 ∙ ap (λ given. Some (result_err given)) c.in-Ok.is) in
    let told = told_before first.0 (λ t. first_told (refusals_of_the_bag t text.now) ≡ Some (result_err c.in_ok-new.field-0)) second.1.0 in
    let number : number_after (highest_deposit t) ≡ Some n = told_before first.0 (λ t. number_after (highest_deposit t) ≡ Some n) (subst (λ new. IfOk new (λ new. number_after (highest_deposit (tables_of (state g.S.Store c.years_before_the_bag.new.tx.conn.now).now)) ≡ Some new.number)) c.in-Ok-2.is second.1.1) in
    let is_bag : bag_of text.now ≡ Ok bag = subst (λ new. IfOk new (λ new. bag_of text.now ≡ Ok new.bag)) c.in-Ok-2.is c.in_ok-new.ensures.bag in
    let shown : years_shown t q.description.now.class ≡ Some c.in-Ok.years = subst (λ given. IfOk given (λ years. years_shown t q.description.now.class ≡ Some years)) c.in-Ok.is first.1.1 in
    let fits : SFits w64 c.in-Ok.years = search rules in
    let are = some_read (years_of_number c.in-Ok.years) Store years (rw (to_z-of_z w64 c.in-Ok.years fits) at c.in_ok-years_numbered.ensures.reads) in
    let due = due_read t q.description.now.class q.description.now.closed c.in-Ok.years years shown are ∙ ap Some (sym c.due-due.ensures.exact) in
    allowed_by (visit_of q) (request_of q text) (answers.Deposited n) refl refl (free ∙ told ∙ ap (λ new. Some (result_err new)) c.in-Ok-2.is) (ap (option_map answers.Deposited) number)
    (rewritten_as (stored_with_due n (row_of q n bag) c.due-due.result bag) (λ t. allowed_rows t (visit_of q) (request_of q text)) (λ t k. with_contents_of bag k) (λ t. contents_after t (request_of q text) (answers.Deposited n))
    (next_kept q text n c.due-due.result bag t number due is_bag) (ap (λ files. with_contents_of (files_if_bag files) (contents_in (state g.S.Store c.args.tx.now.conn.now).now)) (sym is_bag))
    (rewritten_after (stored_with_due n (row_of q n bag) c.due-due.result bag) (λ t k. with_contents_of bag k) same (c.in_ok-store_deposit.ensures.changes clean (office_still same office))))
