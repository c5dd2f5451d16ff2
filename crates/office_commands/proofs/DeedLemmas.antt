-- What is done with an office over a store is done to the history that the store keeps.
use Rattle.office_commands.proofs.Common.{◌≡◌, ◌∙◌, ℕ, List, [], ◌∷◌, Bool, true, false, refl, sym, subst, arith, length, Date, Held, state, State, HasCleanDisk, Survives, Ghosts, History, Answer, IsLegal, Item, Run, Pictures, IsStoredBy, IsLegalAndStored, HasSameTables, after_policy, Connection, IsAfterAll, lost, refused, served, DeskRequest, IsAnswered, AnswersEach, AreDone, Deed, IsAnsweredFrom, IsDone, LeadOn, Leads, answers, by_desk, by_office, deeds_of_connections, deeds_of_records, fails, installs, records_of_connections, texts_of_connections}
use Rattle.sqlite.specs.Tree.{Trees}
use Rattle.http_desk.specs.ReplayRuns as runs
use Rattle.http_desk.specs.ReplayRuns.{IsRunOf}
use Rattle.http_desk.proofs.RunLemmas.{was_clean}

-- ---- an honest disk

survives_clean : (old new : State) (Commits : Trees → Type 0) → Survives old new Commits → HasCleanDisk new → HasCleanDisk old
survives_clean old new Commits survives clean = omega (arith, clean, survives.clean)

deed_cleans : {S : Type 0} (g : Ghosts S) (deed : Deed) (old new : Held S) → IsDone g deed old new → HasCleanDisk (state g new) → HasCleanDisk (state g old)
deed_cleans g (installs policy) old new is clean = survives_clean (state g old) (state g new) _ is.0 clean
deed_cleans g (fails policy) old new is clean = survives_clean (state g old) (state g new) _ is.0 clean
deed_cleans g (answers day bytes text) old new is clean = was_clean g is.0 day bytes text old new is.1 clean

-- a disk that is honest after the deeds was so before them
pub deeds_clean : {S : Type 0} (g : Ghosts S) (deeds : List Deed) (old new : Held S) → AreDone g deeds old new → HasCleanDisk (state g new) → HasCleanDisk (state g old)
deeds_clean g [] old new are clean = subst (λ (s : Held _). HasCleanDisk (state g s)) are clean
deeds_clean g (deed ∷ deeds) old new are clean = deed_cleans g deed old are.0 are.1 (deeds_clean g deeds are.0 new are.2 clean)

-- ---- the history

unchanged : (h : History) (old new : State) → IsLegal h → HasSameTables old new → IsStoredBy h old → IsLegalAndStored h new
unchanged h old new legal same kept = record {
  legal = legal;
  kept = λ is_open. let it = same is_open in let keeps = kept it.0 in (subst (Pictures h) (sym it.1) keeps.0, it.2 ∙ sym it.1);
}

pub answered_from : {S : Type 0} (g : Ghosts S) (done : Bool) (day : Date) (bytes text : List ℕ) (old new : Held S) → IsAnswered g (record { day = day; bytes = bytes }) (record { text = text; done = done }) old new
    → HasCleanDisk (state g new) → (h : History) → IsLegal h → IsStoredBy h (state g old) → (next : History) × IsAnsweredFrom h day bytes text next × IsLegalAndStored next (state g new)
answered_from g true day bytes text old new is clean h legal kept =
    let it = is.1.2 in
    let s = (it.turn clean).served h legal kept in
    (s.0, by_office is.1.0 it.item is.0 is.1.1 it.asks s.1 is.2, s.2)
answered_from g false day bytes text old new is clean h legal kept =
    (h, by_desk is.0 is.1 refl is.3, record { legal = legal; kept = subst (λ (s : Held _). IsStoredBy h (state g s)) (sym is.2) kept })

deed_leads : {S : Type 0} (g : Ghosts S) (deed : Deed) (old new : Held S) → IsDone g deed old new → HasCleanDisk (state g new) → (h : History) → IsLegal h → IsStoredBy h (state g old)
    → (next : History) × Leads deed h next × IsLegalAndStored next (state g new)
deed_leads g (installs policy) old new is clean h legal kept = (after_policy policy h, refl, is.1 clean h legal kept)
deed_leads g (fails policy) old new is clean h legal kept = (h, refl, unchanged h (state g old) (state g new) legal (is.1 clean) kept)
deed_leads g (answers day bytes text) old new is clean h legal kept = answered_from g is.0 day bytes text old new is.1 clean h legal kept

-- whichever legal history was kept, the deeds lead from it to one that is kept
pub deeds_lead : {S : Type 0} (g : Ghosts S) (deeds : List Deed) (old new : Held S) → AreDone g deeds old new → HasCleanDisk (state g new) → (h : History) → IsLegal h → IsStoredBy h (state g old)
    → (next : History) × LeadOn deeds h next × IsLegalAndStored next (state g new)
deeds_lead g [] old new are clean h legal kept = (h, refl, record { legal = legal; kept = subst (λ (s : Held _). IsStoredBy h (state g s)) (sym are) kept })
deeds_lead g (deed ∷ deeds) old new are clean h legal kept =
    let first = deed_leads g deed old are.0 are.1 (deeds_clean g deeds are.0 new are.2 clean) h legal kept in
    let rest = deeds_lead g deeds are.0 new are.2 clean first.0 first.2.legal first.2.kept in
    (rest.0, (first.0, first.1, rest.1), rest.2)

-- ---- records and connections

pub records_are_done : {S : Type 0} (g : Ghosts S) (items : List DeskRequest) (texts : List (List ℕ)) (old new : Held S) → AnswersEach g old items texts new → AreDone g (deeds_of_records items texts) old new
records_are_done g [] [] old new each = each
records_are_done g (item ∷ items) (text ∷ texts) old new each = (each.0, each.1, records_are_done g items texts each.0 new each.2)
records_are_done g [] (text ∷ texts) old new each = absurd each
records_are_done g (item ∷ items) [] old new each = absurd each

-- each record has a text
pub as_many : {S : Type 0} (g : Ghosts S) (items : List DeskRequest) (texts : List (List ℕ)) (old new : Held S) → AnswersEach g old items texts new → length texts ≡ length items
as_many g [] [] old new each = refl
as_many g (item ∷ items) (text ∷ texts) old new each = let more = as_many g items texts each.0 new each.2 in omega arith
as_many g [] (text ∷ texts) old new each = absurd each
as_many g (item ∷ items) [] old new each = absurd each

pub connections_are_done : {S : Type 0} (g : Ghosts S) (day : Date) (connections : List Connection) (old new : Held S) → IsAfterAll g day connections old new
    → AreDone g (deeds_of_connections day connections) old new
connections_are_done g day [] old new all = all
connections_are_done g day (served bytes item answer whole ∷ more) old new all =
    let it = all.1 in (all.0, (true, (answer, (it.0, it.1, it.2), refl)), connections_are_done g day more all.0 new all.2)
connections_are_done g day (refused bytes refusal ∷ more) old new all =
    let it = all.1 in (all.0, (false, (refusal, it.0, it.1, refl)), connections_are_done g day more all.0 new all.2)
connections_are_done g day (lost ∷ more) old new all =
    subst (λ (s : Held _). AreDone g (deeds_of_connections day more) s new) all.1 (connections_are_done g day more all.0 new all.2)

-- ---- records are a run

one_more : (item : DeskRequest) (text : List ℕ) (items : List DeskRequest) (texts : List (List ℕ)) (h mid next : History) → IsAnsweredFrom h item.day item.bytes text mid
    → ((run : List Item) × (answers : List Answer) × IsRunOf items texts run answers × Run mid run answers next)
    → (run : List Item) × (answers : List Answer) × IsRunOf (item ∷ items) (text ∷ texts) run answers × Run h run answers next
one_more item text items texts h mid next (by_office heard asked answer hears asks step is) rest = (
  asked ∷ rest.0,
  answer ∷ rest.1,
  subst (λ (t : List ℕ). IsRunOf (item ∷ items) (t ∷ texts) (asked ∷ rest.0) (answer ∷ rest.1)) (sym is) (runs.served item heard asked answer items texts rest.0 rest.1 hears asks rest.2),
  (mid, step, rest.3),
)
one_more item text items texts h mid next (by_desk refusal hears same is) rest = (
  rest.0,
  rest.1,
  subst (λ (t : List ℕ). IsRunOf (item ∷ items) (t ∷ texts) rest.0 rest.1) (sym is) (runs.refused item refusal items texts rest.0 rest.1 hears rest.2),
  subst (λ (x : History). Run x rest.0 rest.1 next) same rest.3,
)

pub answers_are_runs : (items : List DeskRequest) (texts : List (List ℕ)) (h next : History) → length texts ≡ length items → LeadOn (deeds_of_records items texts) h next
    → (run : List Item) × (answers : List Answer) × IsRunOf items texts run answers × Run h run answers next
answers_are_runs [] [] h next same leads = ([], [], runs.none, leads)
answers_are_runs (item ∷ items) (text ∷ texts) h next same leads =
    one_more item text items texts h leads.0 next leads.1 (answers_are_runs items texts leads.0 next (omega (arith, same)) leads.2)
answers_are_runs [] (text ∷ texts) h next same leads = absurd (omega (arith, same))
answers_are_runs (item ∷ items) [] h next same leads = absurd (omega (arith, same))

-- each connection that is answered has a text
as_many_heard : (day : Date) (connections : List Connection) → length (texts_of_connections connections) ≡ length (records_of_connections day connections)
as_many_heard day [] = refl
as_many_heard day (served bytes item answer whole ∷ more) = let rest = as_many_heard day more in omega arith
as_many_heard day (refused bytes refusal ∷ more) = let rest = as_many_heard day more in omega arith
as_many_heard day (lost ∷ more) = as_many_heard day more

pub connections_are_runs : (day : Date) (connections : List Connection) (h next : History) → LeadOn (deeds_of_connections day connections) h next
    → (run : List Item) × (answers : List Answer) × IsRunOf (records_of_connections day connections) (texts_of_connections connections) run answers × Run h run answers next
connections_are_runs day connections h next leads =
    answers_are_runs (records_of_connections day connections) (texts_of_connections connections) h next (as_many_heard day connections) leads
