-- Records that are answered one after the other are a run.
use Rattle.http_desk.proofs.Common.{ℕ, List, [], ◌∷◌, Bool, true, false, refl, sym, subst, Date, Held, state, Ghosts, DeskRequest, IsAnswered, AnswersEach}
use Rattle.sqlite.specs.State.{HasCleanDisk}
use Rattle.office_engine.specs.Storing.{IsStoredBy}
use Rattle.http_desk.specs.ReplayRuns.{IsRunOf, none, served, refused, RunsEach}

-- a disk that is honest after an answer, and after records, was so before them
pub was_clean : {S : Type 0} (g : Ghosts S) (done : Bool) (day : Date) (bytes text : List ℕ) (old new : Held S) → IsAnswered g (record { day = day; bytes = bytes }) (record { text = text; done = done }) old new
    → HasCleanDisk (state g new) → HasCleanDisk (state g old)
was_clean g true day bytes text old new is clean = is.1.2.clean clean
was_clean g false day bytes text old new is clean = subst (λ o. HasCleanDisk (state g o)) is.2 clean

pub clean_at : {S : Type 0} (g : Ghosts S) (old new : Held S) (items : List DeskRequest) (texts : List (List ℕ)) → AnswersEach g old items texts new → HasCleanDisk (state g new) → HasCleanDisk (state g old)
clean_at g old new [] [] each clean = subst (λ o. HasCleanDisk (state g o)) each clean
clean_at g old new (item ∷ items) (text ∷ texts) each clean = was_clean g each.1.0 item.day item.bytes text old each.0 each.1.1 (clean_at g each.0 new items texts each.2 clean)
clean_at g old new _ _ each clean = absurd each

one_more : {S : Type 0} (g : Ghosts S) (done : Bool) (old mid new : Held S) (item : DeskRequest) (text : List ℕ) (items : List DeskRequest) (texts : List (List ℕ))
    → IsAnswered g item (record { text = text; done = done }) old mid → HasCleanDisk (state g mid) → RunsEach g mid new items texts → RunsEach g old new (item ∷ items) (text ∷ texts)
one_more g true old mid new item text items texts a at_mid later clean h legal kept =
    let s = a.1.2 in
    let step = (s.turn at_mid).served h legal kept in
    let run = later clean step.0 step.2.legal step.2.kept in
    (s.item ∷ run.0, a.0 ∷ run.1, run.2, subst (λ t. IsRunOf (item ∷ items) (t ∷ texts) (s.item ∷ run.0) (a.0 ∷ run.1)) (sym a.2) (served item a.1.0 s.item a.0 items texts run.0 run.1 a.1.1 s.asks run.3), (step.0, step.1, run.4), run.5)
one_more g false old mid new item text items texts a at_mid later clean h legal kept =
    let run = later clean h legal (subst (λ o. IsStoredBy h (state g o)) (sym a.2) kept) in
    (run.0, run.1, run.2, subst (λ t. IsRunOf (item ∷ items) (t ∷ texts) run.0 run.1) (sym a.3) (refused item a.0 items texts run.0 run.1 a.1 run.3), run.4, run.5)

pub runs_each : {S : Type 0} (g : Ghosts S) (old new : Held S) (items : List DeskRequest) (texts : List (List ℕ)) → AnswersEach g old items texts new → RunsEach g old new items texts
runs_each g old new [] [] each clean h legal kept = ([], [], h, none, refl, record { legal = legal; kept = subst (λ o. IsStoredBy h (state g o)) (sym each) kept })
runs_each g old new (item ∷ items) (text ∷ texts) each clean h legal kept =
    one_more g each.1.0 old each.0 new item text items texts each.1.1 (clean_at g each.0 new items texts each.2 clean) (runs_each g each.0 new items texts each.2) clean h legal kept
runs_each g old new _ _ each clean h legal kept = absurd each
