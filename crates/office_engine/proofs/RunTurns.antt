-- Items of a run in turn.
use Rattle.office_engine.proofs.Common.{◌≡◌, ◌⊎◌, inl, inr, ◌≤◌, ◌<◌, refl, ℕ, suc, ◌+◌, List, [], ◌∷◌, ◌++◌, take, length, get_or, Some, Result, Ok, Err, OnErr, false, IsTrue, true≢false, subst, sym, ap, ◌∙◌, arith, cases_Bool, take_more, take_all, All-nil, All-cons, same_Some, Trees, Ghosts, State, HasCleanDisk, Survives, Held, state, Answer, History, with_changes, change, Item, Run, grown_by_none, visit_on, Rows, RowsMake, RowsRun, AllStayShut, IsFoundBy, IsLeftOf, IsTurn, InTurn, LeavesRun, LeavesRunRows, Runs, RunsRows, after_item, is_accepted, IsFailure}
use Rattle.office_engine.proofs.Ends.{Account, Keeps, IsSettled, Leaves, MakesHistory, MakesRows, all_rows, histories, left_settled}
use Rattle.office_engine.proofs.FoundAfter.{changes_or, failure_or}
use Rattle.office_engine.proofs.RowsAccepted.{rows_stay}

-- a change of an item that failed
abbrev pub AddsToHistory : History → Item → History → Type 0
AddsToHistory h item found = found ≡ after_item item h

abbrev pub AddsToRows : Rows → Item → Rows → Type 0
AddsToRows r item found = (given : Answer) × RowsMake r item given found

module _ {S : Type 0} (g : Ghosts S) where
  -- ---- the store between two items

  turns_more : (old mid new : Held S) (items : List Item) (told : List Answer) (item : Item) (given : Answer) → InTurn g old mid items told → IsTurn (state g mid) (state g new) item given
      → InTurn g old new (items ++ item ∷ []) (told ++ given ∷ [])
  turns_more old mid new [] [] item given turns turn = (new, subst (λ (h : Held S). IsTurn (state g h) (state g new) item given) turns turn, refl)
  turns_more old mid new (i ∷ items) (a ∷ told) item given turns turn = (turns.0, turns.1, turns_more turns.0 mid new items told item given turns.2 turn)
  turns_more old mid new _ _ item given turns turn = absurd turns

  pub turns_next : (old mid new : Held S) (items : List Item) (index : ℕ) (item : Item) (told : List Answer) (given : Answer) → index < length items → item ≡ get_or items index item
      → InTurn g old mid (take index items) told → IsTurn (state g mid) (state g new) item given → InTurn g old new (take (index + 1) items) (told ++ given ∷ [])
  turns_next old mid new items index item told given low is turns turn =
      let longer = take_more items index item low ∙ ap (λ (x : Item). take index items ++ x ∷ []) (sym is) in
      subst (λ (xs : List Item). InTurn g old new xs (told ++ given ∷ [])) (sym longer) (turns_more old mid new (take index items) told item given turns turn)

  pub turns_end : (old new : Held S) (items : List Item) (index : ℕ) (told : List Answer) → length items ≤ index → InTurn g old new (take index items) told → InTurn g old new items told
  turns_end old new items index told high turns = subst (λ (xs : List Item). InTurn g old new xs told) (take_all index items high) turns

  -- what is so of no requests, and of one before those of which it is so
  turns_fold : (new : Held S) (P : Held S → List Item → List Answer → Type 0) → P new [] []
      → ((old mid : Held S) (item : Item) (given : Answer) (items : List Item) (told : List Answer) → IsTurn (state g old) (state g mid) item given → InTurn g mid new items told → P mid items told → P old (item ∷ items) (given ∷ told))
      → (old : Held S) (items : List Item) (told : List Answer) → InTurn g old new items told → P old items told
  turns_fold new P none one old [] [] turns = subst (λ (s : Held S). P s [] []) turns none
  turns_fold new P none one old (item ∷ items) (given ∷ told) turns = one old turns.0 item given items told turns.1 turns.2 (turns_fold new P none one turns.0 items told turns.2)
  turns_fold new P none one old _ _ turns = absurd turns

  -- over a store that a fault has shut, each is a failure
  pub turns_shut : (old new : Held S) (items : List Item) (told : List Answer) → InTurn g old new items told → AllStayShut (state g old) (state g new) told
  turns_shut old new = turns_fold new (λ s items told. AllStayShut (state g s) (state g new) told) (λ shut. (All-nil IsFailure, shut))
      (λ old mid item given items told turn turns more shut. let one = turn.shut shut in let rest = more one.1 in (All-cons IsFailure given told one.0 rest.0, rest.1)) old

  -- ---- what a crash may leave

  -- a disk that is honest after requests was so before them
  turns_clean : (old new : Held S) (items : List Item) (told : List Answer) → InTurn g old new items told → HasCleanDisk (state g new) → HasCleanDisk (state g old)
  turns_clean old new = turns_fold new (λ s items told. HasCleanDisk (state g new) → HasCleanDisk (state g s)) (λ clean. clean)
      (λ old mid item given items told turn turns more clean. let later : HasCleanDisk (state g mid) = more clean in let now : HasCleanDisk (state g old) = omega (arith, later, turn.survives.clean) in now) old

  -- over a store that a fault has shut, nothing more
  shut_leaves : (old new : Held S) (items : List Item) (told : List Answer) → InTurn g old new items told → HasCleanDisk (state g new) → (state g old).is_open ≡ false
      → (left : Trees) → (state g new).may_leave left → (state g old).may_leave left
  shut_leaves old new = turns_fold new (λ s items told. HasCleanDisk (state g new) → (state g s).is_open ≡ false → (left : Trees) → (state g new).may_leave left → (state g s).may_leave left) (λ clean shut left may. may)
      (λ old mid item given items told turn turns more clean shut left may.
      elim (turn.survives.crash (turns_clean mid new items told turns clean) left (more clean (turn.shut shut).1 left may)) [
        | inl was ↦ was
        | inr made ↦ absurd (true≢false (sym made.0 ∙ shut))
      ]) old

  -- ---- in an account of what the office has

  module _ {X : Type 0} (a : Account X) (Makes : Item → X → Answer → X → Type 0) (Adds : X → Item → X → Type 0) (Ran : X → List Item → List Answer → X → Type 0) where
    abbrev Steps : Item → X → Answer → X → Type 0
    Steps item x given y = (IsFailure given × (y ≡ x)) ⊎ Makes item x given y

    -- what a request does to it
    abbrev Moves : Type 0
    Moves =
        (old new : Held S) (item : Item) (given : Answer) → IsTurn (state g old) (state g new) item given → (x : X) → a.Legal x → Keeps (a.Is x) (state g old)
        → (y : X) × Steps item x given y × a.Legal y × Keeps (a.Is y) (state g new)

    -- and what a crash leaves of it
    abbrev Crashes : Type 0
    Crashes =
        (old new : Held S) (item : Item) (given : Answer) → IsTurn (state g old) (state g new) item given → (x : X) → a.Legal x → IsTrue (state g old).is_open → Keeps (a.Is x) (state g old)
        → (left : Trees) → (state g new).may_leave left → (y : X) × (Steps item x given y ⊎ (IsFailure given × Adds x item y)) × Leaves (a.Is y) left

    abbrev LeftOf : X → List Item → List Answer → Trees → Type 0
    LeftOf x items told left = (found : X) × IsFoundBy Ran Adds x items told found × Leaves (a.Is found) left

    module _ (ends : (x : X) → Ran x [] [] x) (goes : (x y z : X) (item : Item) (given : Answer) (items : List Item) (told : List Answer) → Steps item x given y → Ran y items told z → Ran x (item ∷ items) (given ∷ told) z) (moves : Moves) where
      -- requests in turn are a run
      pub turns_ran : (old new : Held S) (items : List Item) (told : List Answer) → InTurn g old new items told → (x : X) → a.Legal x → Keeps (a.Is x) (state g old) → (y : X) × Ran x items told y × a.Legal y × Keeps (a.Is y) (state g new)
      turns_ran old new =
          turns_fold new (λ s items told. (x : X) → a.Legal x → Keeps (a.Is x) (state g s) → (y : X) × Ran x items told y × a.Legal y × Keeps (a.Is y) (state g new)) (λ x legal keeps. (x, ends x, legal, keeps))
          (λ old mid item given items told turn turns more x legal keeps.
          let one = moves old mid item given turn x legal keeps in
          let rest = more one.0 one.2 one.3 in
          (rest.0, goes x one.0 rest.0 item given items told one.1 rest.1, rest.2, rest.3)) old

      -- over a store that a fault has shut, it stays
      shut_ran : (old new : Held S) (items : List Item) (told : List Answer) → InTurn g old new items told → (state g old).is_open ≡ false → (x : X) → Ran x items told x
      shut_ran old new =
          turns_fold new (λ s items told. (state g s).is_open ≡ false → (x : X) → Ran x items told x) (λ shut x. ends x)
          (λ old mid item given items told turn turns more shut x. let one = turn.shut shut in goes x x x item given items told (inl (one.0, refl)) (more one.1 x)) old

      module _ (crashes : Crashes) (settled : (s : Held S) → IsSettled (state g s)) where
        -- with an item a fault shut the store
        left_shut : (old mid new : Held S) (item : Item) (given : Answer) (items : List Item) (told : List Answer) → IsTurn (state g old) (state g mid) item given → InTurn g mid new items told → (state g mid).is_open ≡ false
            → (x : X) → a.Legal x → IsTrue (state g old).is_open → Keeps (a.Is x) (state g old) → (left : Trees) → (state g mid).may_leave left → LeftOf x (item ∷ items) (given ∷ told) left
        left_shut old mid new item given items told turn turns shut x legal is_open keeps left may =
            let crash = crashes old mid item given turn x legal is_open keeps left may in
            let stays = shut_ran mid new items told turns shut in
            elim crash.1 [
              | inl step ↦ (crash.0, record { told = crash.0; run = goes x crash.0 crash.0 item given items told step (stays crash.0); is_found = inl refl }, crash.2)
              | inr failed ↦ (
                crash.0,
                record {
                  told = x;
                  run = goes x x x item given items told (inl (failed.0, refl)) (stays x);
                  is_found = inr (record { count = 0; item = item; rest = items; is_item = refl; failed = All-cons IsFailure given told failed.0 (turns_shut mid new items told turns shut).0; added = failed.1 });
                },
                crash.2,
              )
            ]

        -- an item before it
        found_more : (x y found : X) (item : Item) (given : Answer) (items : List Item) (told : List Answer) → Steps item x given y → IsFoundBy Ran Adds y items told found → IsFoundBy Ran Adds x (item ∷ items) (given ∷ told) found
        found_more x y found item given items told step after = record {
          told = after.told;
          run = goes x y after.told item given items told step after.run;
          is_found = elim after.is_found [
            | inl same ↦ inl same
            | inr adds ↦ inr (record { count = suc adds.count; item = adds.item; rest = adds.rest; is_item = adds.is_item; failed = adds.failed; added = adds.added })
          ];
        }

        pub turns_left : (old new : Held S) (items : List Item) (told : List Answer) → InTurn g old new items told → HasCleanDisk (state g new)
            → (x : X) → a.Legal x → IsTrue (state g old).is_open → Keeps (a.Is x) (state g old) → (left : Trees) → (state g new).may_leave left → LeftOf x items told left
        turns_left old new items told turns clean =
            turns_fold new (λ s items told. (x : X) → a.Legal x → IsTrue (state g s).is_open → Keeps (a.Is x) (state g s) → (left : Trees) → (state g new).may_leave left → LeftOf x items told left)
            (λ x legal is_open keeps left may. (x, record { told = x; run = ends x; is_found = inl refl }, left_settled (a.Is x) (state g new) (settled new) is_open keeps left may))
            (λ old mid item given items told turn turns more x legal is_open keeps left may. elim (cases_Bool (state g mid).is_open) [
              | inl still ↦
                  let one = moves old mid item given turn x legal keeps in
                  let rest = more one.0 one.2 still one.3 left may in
                  (rest.0, found_more x one.0 rest.0 item given items told one.1 rest.1, rest.2)
              | inr shut ↦ left_shut old mid new item given items told turn turns shut x legal is_open keeps left (shut_leaves mid new items told turns clean shut left may)
            ]) old items told turns

  -- ---- histories, and rows

  pub history_moves : Moves histories MakesHistory AddsToHistory Run
  history_moves old new item given turn h legal keeps = let one = turn.served h legal keeps in (one.0, one.1, one.2.legal, one.2.kept)

  pub history_crashes : Crashes histories MakesHistory AddsToHistory Run
  history_crashes old new item given turn h legal is_open keeps left may =
      let either = turn.leaves h legal is_open keeps left may in
      let next = after_item item h in
      elim (failure_or given) [
        | inl fails ↦ elim either [ inl was ↦ (h, inl (inl (fails, refl)), was) | inr made ↦ (next, inr (fails, refl), made) ]
        | inr answered ↦ elim (turn.served h legal keeps).1 [
          | inl failed ↦ absurd (answered failed.0)
          | inr told ↦ (
            next,
            inl (inr (told.0, refl)),
            elim either [
              | inr made ↦ made
              | inl was ↦ elim (changes_or (change h item.0 item.1.now item.2)) [
                | inl none ↦ subst (λ (k : History). IsLeftOf k left) (grown_by_none h ∙ sym (ap (with_changes h) none)) was
                | inr some ↦ turn.durable h legal keeps answered some left may
              ]
            ],
          )
        ]
      ]

  pub rows_move : Moves all_rows MakesRows AddsToRows RowsRun
  rows_move old new item given turn r legal has = let one = turn.takes_rows_step r has in (one.0, one.1, tt, one.2)

  pub rows_crash : Crashes all_rows MakesRows AddsToRows RowsRun
  rows_crash old new item given turn r legal is_open has left may =
      let either = turn.leaves_rows r is_open has left may in
      let visit = visit_on item.0 item.1.now in
      elim (failure_or given) [
        | inl fails ↦ elim either [ inl was ↦ (r, inl (inl (fails, refl)), was) | inr made ↦ (made.1, inr (fails, (made.0, made.2)), made.3) ]
        | inr answered ↦ elim (turn.takes_rows_step r has).1 [
          | inl failed ↦ absurd (answered failed.0)
          | inr makes ↦ elim either [
            | inl was ↦ elim (cases_Bool (is_accepted given)) [
              | inl accepted ↦ let made = turn.durable_rows r has accepted in (made.0, inl (inr made.1), made.2 left may)
              | inr none ↦ (r, inl (inr (makes ∙ ap (λ (rows : Rows). Some (given, rows)) (rows_stay given none r (turn.takes_rows_step r has).0 visit item.2 makes))), was)
            ]
            | inr made ↦ (made.1, inl (inr (makes ∙ ap (λ (p : Answer × Rows). Some (given, p.1)) (same_Some _ _ (sym makes ∙ made.2)))), made.3)
          ]
        ]
      ]

  -- ---- what requests in turn are

  module _ (old new : Held S) (items : List Item) (told : List Answer) (turns : InTurn g old new items told) where
    pub ran : Runs (state g old) (state g new) items told
    ran h legal keeps =
        let last = turns_ran histories MakesHistory AddsToHistory Run (λ x. refl) (λ x y z item given items told step run. (y, step, run)) history_moves old new items told turns h legal keeps in
        (last.0, last.1, record { legal = last.2; kept = last.3 })

    pub ran_rows : RunsRows (state g old) (state g new) items told
    ran_rows r has = let last = turns_ran all_rows MakesRows AddsToRows RowsRun (λ x. refl) (λ x y z item given items told step run. (y, step, run)) rows_move old new items told turns r tt has in (last.0, last.1, last.3)

    module _ (settled : (s : Held S) → IsSettled (state g s)) (clean : HasCleanDisk (state g new)) where
      pub left_run : LeavesRun (state g old) (state g new) items told
      left_run = turns_left histories MakesHistory AddsToHistory Run (λ x. refl) (λ x y z item given items told step run. (y, step, run)) history_moves history_crashes settled old new items told turns clean

      pub left_rows : LeavesRunRows (state g old) (state g new) items told
      left_rows r is_open has = turns_left all_rows MakesRows AddsToRows RowsRun (λ x. refl) (λ x y z item given items told step run. (y, step, run)) rows_move rows_crash settled old new items told turns clean r tt is_open has

      -- whichever was open
      pub survived : (P : Trees → Type 0) → (IsTrue (state g old).is_open → (left : Trees) → (state g new).may_leave left → P left) → (left : Trees) → (state g new).may_leave left
          → (state g old).may_leave left ⊎ (IsTrue (state g old).is_open × P left)
      survived P leaves left may = elim (cases_Bool (state g old).is_open) [
        | inl is_open ↦ inr (is_open, leaves is_open left may)
        | inr shut ↦ inl (shut_leaves old new items told turns clean shut left may)
      ]

pub on_err : {T E P : Type 0} (r : Result T E) → P → OnErr r P
on_err (Ok x) p = tt
on_err (Err e) p = p

pub survives_run : (old new : State) (P Q : Trees → Type 0) → Survives old new P → (HasCleanDisk new → (left : Trees) → new.may_leave left → old.may_leave left ⊎ Q left) → Survives old new Q
survives_run old new P Q s crash = record { clean = s.clean; shield = s.shield; counts = s.counts; limit = s.limit; closes = s.closes; crash = crash }
