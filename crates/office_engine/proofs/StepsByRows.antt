-- What is made and told of the rows is made and told of the legal history that they picture.
use Rattle.office_engine.proofs.Common.{◌≡◌, true, Option, Some, refl, sym, ap, subst, ◌∙◌, Result, Ok, Err, IfOk, OnOk, same_Some, IfOk-weaker, Ghosts, Held, state, Answer, Request, Tables, this_version, TableFault, after, answer, History, picture, IsItem, IsLegal, Item, Visit, installed, serve, visit_on, Rows, rows_of, downloads_intact, Pictures, Changes, Serves, rows_after, serve_rows, rows_installed, Finds, after_item, after_policy}
use Rattle.office_core.specs.Policies.{IsPolicy, PolicyValue}
use Rattle.office_contents.specs.Calls.{Shows}
use Rattle.office_history.specs.Runs as runs
use Rattle.office_engine.proofs.Ends.{MakesHistory, MakesInside, MakesRows, all_rows, histories}
use Rattle.office_core.proofs.OptionLemmas.{some_and_then}
use Rattle.std.proofs.lemmas.Option.{cond_some}

ok_weaker : {T E P : Type 0} {Q : T → Type 0} (result : Result T E) → ((x : T) → P → Q x) → OnOk result P → IfOk result Q
ok_weaker (Ok x) told is = told x is
ok_weaker (Err e) told is = tt

-- ---- a request

-- what a request does to the rows of a legal history is what it does to the history
abbrev pub AreExact : Type 0
AreExact =
    (h : History) (visit : Visit) (request : Request) → IsLegal h
    → serve (picture this_version h) visit request ≡ Some (answer h visit.day visit.caller request, picture this_version (after h visit.day visit.caller request))

-- what it says that a request comes to this answer
module _ (r : Rows) (visit : Visit) (request : Request) (given : Answer) (next : Rows) where
  abbrev Parts : Option (Answer × Tables) → Type 0
  Parts served = (served ≡ Some (given, next.tables)) × (downloads_intact r request given ≡ true) × (next ≡ rows_after r request given next.tables)

  pub served_parts : serve_rows r visit request ≡ Some (given, next) → Parts (serve r.tables visit request)
  served_parts e =
      let (served, is, kept) = some_and_then (serve r.tables visit request) _ (given, next) e in
      let (intact, same) = cond_some (downloads_intact r request served.0) (served.0, rows_after r request served.0 served.1) (given, next) kept in
      let answer_is : served.0 ≡ given = ap (λ (p : Answer × Rows). p.0) same in
      let rows_are : rows_after r request served.0 served.1 ≡ next = ap (λ (p : Answer × Rows). p.1) same in (
        is ∙ (λ i. Some (answer_is i, (rows_are i).tables)),
        sym (ap (downloads_intact r request) answer_is) ∙ intact,
        sym rows_are ∙ (λ i. rows_after r request (answer_is i) (rows_are i).tables),
      )

module _ {S : Type 0} (g : Ghosts S) (first last : Held S) (result : Result Answer TableFault) (item : Item) (serves : Serves g (record first { in_transaction = true }) last result (visit_on item.0 item.1.now) item.2) where
  abbrev visit : Visit
  visit = visit_on item.0 item.1.now

  pub served_history : AreExact → IsItem item → MakesInside histories (MakesHistory item) g first last result
  served_history exact ranged clean h legal pictured =
      IfOk-weaker result _ _ (λ given is.
      let told = (served_parts (rows_of (state g first).now) visit item.2 given is.rows is.is).0 in
      let same = same_Some _ _ (sym told ∙ ap (λ t. serve t visit item.2) pictured.are ∙ exact h visit item.2 legal) in (
        after_item item h,
        (ap (λ (p : Answer × Tables). p.0) same, refl),
        runs.step h item.0 item.1.now item.2 ranged.0 ranged.1 legal,
        record {
          office = is.leaves.office;
          are = ap (λ (r : Rows). r.tables) is.leaves.are ∙ ap (λ (p : Answer × Tables). p.1) same;
          once = is.once pictured.once;
        },
      ))
      (serves clean pictured.office)

  pub takes_rows_step : MakesInside all_rows (MakesRows item) g first last result
  takes_rows_step clean r legal had = IfOk-weaker result _ _ (λ given is. (is.rows, ap (λ r. serve_rows r visit item.2) (sym had.are) ∙ is.is, tt, is.leaves)) (serves clean had.office)

-- ---- an install

-- what an install makes of the rows of a history is the picture of the history after it
abbrev pub InstallsAreExact : Type 0
InstallsAreExact = (h : History) (policy : PolicyValue) → installed policy (picture this_version h) ≡ picture this_version (after_policy policy h)

-- what it makes of a history, and of rows
abbrev pub InstallsHistory : {T : Type 0} → PolicyValue → History → T → History → Type 0
InstallsHistory policy h given next = next ≡ after_policy policy h

abbrev pub InstallsIn : {T : Type 0} → PolicyValue → Rows → T → Rows → Type 0
InstallsIn policy r given next = next ≡ rows_installed policy r

module _ {S T : Type 0} (g : Ghosts S) (first last : Held S) (result : Result T TableFault) (policy : PolicyValue) (changes : Changes g (record first { in_transaction = true }) last result (λ t. Some (installed policy t))) where
  pub installed_history : InstallsAreExact → IsPolicy policy → MakesInside histories (InstallsHistory policy) g first last result
  installed_history exact sound clean h legal pictured =
      ok_weaker result (λ given is. (
        after_policy policy h,
        refl,
        runs.install h policy sound legal,
        record { office = is.becomes.office; are = is.becomes.are ∙ sym (same_Some _ _ is.is) ∙ ap (installed policy) pictured.are ∙ exact h policy; once = is.once pictured.once },
      )) (changes clean pictured.office)

  pub installed_in : MakesInside all_rows (InstallsIn policy) g first last result
  installed_in clean r legal had =
      ok_weaker result (λ given is.
      let tables = is.becomes.are ∙ sym (same_Some _ _ is.is) ∙ ap (λ (r : Rows). installed policy r.tables) had.are in
      let contents = is.contents ∙ ap (λ (r : Rows). r.contents) had.are in
      (rows_installed policy r, refl, tt, record { office = is.becomes.office; are = λ i. record { tables = tables i; contents = contents i } }))
      (changes clean had.office)

-- ---- what is read

-- what is shown of the rows is found of the legal history that they picture
pub shown_found : {S T : Type 0} (g : Ghosts S) (first last : Held S) (result : Result T TableFault) (is_shown : Tables → T → Type 0) (is_so : History → T → Type 0)
    → ((h : History) → IsLegal h → (found : T) → is_shown (picture this_version h) found → is_so h found)
    → Shows g (record first { in_transaction = true }) last result is_shown → Finds g (record first { in_transaction = true }) last result is_so
shown_found g first last result is_shown is_so told shows clean h legal pictured =
    IfOk-weaker result _ _ (λ found shown. (subst (Pictures h) (sym shown.0) pictured, told h legal found (subst (λ t. is_shown t found) pictured.are shown.1)))
    (shows clean pictured.office)
