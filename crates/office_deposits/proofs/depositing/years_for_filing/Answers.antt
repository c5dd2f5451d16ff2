use Rattle.office_deposits.proofs.Lemmas.{rules, w64, ◌≡◌, true, false, sym, ap, ◌∙◌, None, Some, SFits, to_z-of_z, IfOk-weaker, state, tables_of, office_still, told_before, clean_first, inside_after, inside_failed, inside_then, denial_in, visit_of, years_shown, denial_first, no_class_first, no_collection_first}
use Rattle.office_core.specs.declared.action.Action.TheVariants as acts
use Rattle.office_deposits.proofs.depositing.years_for_filing.Goals as goal

pub returns-in_err-years-clause-inside : goal.returns-in_err-years-clause-inside
returns-in_err-years-clause-inside g c = inside_failed c.in_ok-has_collection.ensures.inside c.class_of.ensures.inside _ (search rules) (search rules)

pub returns-in_default-clause-inside : goal.returns-in_default-clause-inside
returns-in_default-clause-inside g c = inside_after c.in_ok-has_collection.ensures.inside c.in_ok-years.ensures.inside _ (search rules)

pub returns-in_err-denied-clause-inside : goal.returns-in_err-denied-clause-inside
returns-in_err-denied-clause-inside g c = inside_failed (inside_then c.in_ok-has_collection.ensures.inside c.in_ok-years.ensures.inside) c.denial.ensures.inside _ (search rules) (search rules)

pub returns-clause-inside : goal.returns-clause-inside
returns-clause-inside g c = inside_after (inside_then c.in_ok-has_collection.ensures.inside c.in_ok-years.ensures.inside) c.in_ok-denied.ensures.inside _ (search rules)

pub returns-then-not-branch-clause-reads : goal.returns-then-not-branch-clause-reads
returns-then-not-branch-clause-reads g c clean office =
    let q = c.args.details.now in
    let first = c.in_ok-has_collection.ensures in
    let none : false ≡ c.in_ok-has_collection.field-0 = search rules in
    (first.same clean office, (no_collection_first (tables_of (state g.S.Store c.args.tx.now.conn.now).now) (visit_of q) q.description.now (none ∙ (rw c.as_str-collection.ensures.text at (first.found clean office))), tt))

pub returns-in_default-clause-reads : goal.returns-in_default-clause-reads
returns-in_default-clause-reads g c clean office =
    let q = c.args.details.now in
    let first = c.in_ok-has_collection.ensures in
    let second = c.in_ok-years.ensures in
    let early = clean_first second.inside.stays clean in
    let same = first.same early office in
    let yes : true ≡ c.in_ok-has_collection.field-0 = search rules in
    let none : None ≡ c.in_ok-years.field-0 = search rules in
    let there = rw c.as_str-collection.ensures.text at (first.found early office) in
    let read = told_before same (λ t. c.in_ok-years.field-0 ≡ years_shown t q.description.now.class) ((rw c.as_str-class.ensures.text at second.found) clean (office_still same office)) in
    (second.same clean (office_still same office) ∙ same, (no_class_first (tables_of (state g.S.Store c.args.tx.now.conn.now).now) (visit_of q) q.description.now (yes ∙ there) (none ∙ read), tt))

pub returns-clause-reads : goal.returns-clause-reads
returns-clause-reads g c clean office =
    let q = c.args.details.now in
    let first = c.in_ok-has_collection.ensures in
    let second = c.in_ok-years.ensures in
    let third = c.in_ok-denied.ensures in
    let fits : SFits w64 c.in-Some.years = search rules in
    let given = rw (to_z-of_z w64 c.in-Some.years fits) at c.unless_refused.ensures in
    let clean2 = clean_first third.inside.stays clean in
    let clean1 = clean_first second.inside.stays clean2 in
    let same1 = first.same clean1 office in
    let same2 = second.same clean2 (office_still same1 office) ∙ same1 in
    let yes : true ≡ c.in_ok-has_collection.field-0 = search rules in
    let there = rw c.as_str-collection.ensures.text at (first.found clean1 office) in
    let read = sym c.in-Some.is ∙ told_before same1 (λ t. c.in_ok-years.field-0 ≡ years_shown t q.description.now.class) ((rw c.as_str-class.ensures.text at second.found) clean2 (office_still same1 office)) in
    let asked = (rw (c.as_str-collection.ensures.text, c.as_str-class.ensures.text) at third.reads) clean (office_still same2 office) in
    let denied = told_before same2 (λ t. denial_in t (visit_of q) acts.Deposit (Some q.description.now.collection) (Some q.description.now.class) ≡ Some c.in_ok-denied.denied) asked.1 in
    let told = denial_first (tables_of (state g.S.Store c.args.tx.now.conn.now).now) (visit_of q) q.description.now (yes ∙ there) c.in-Some.years read c.in_ok-denied.denied denied in
    (asked.0 ∙ same2, (told ∙ ap Some (sym given.refused), IfOk-weaker c.unless_refused.result _ _ (λ years is. sym read ∙ ap Some (sym is)) given.years))
