-- How a transaction ends.
use Rattle.office_engine.proofs.Common.{◌≡◌, ◌⊎◌, inl, inr, true, false, Result, Ok, Err, IfOk, OnOk, IsOkAnd, IsTrue, refl, sym, subst, ap, ◌∙◌, true≢false, arith, Ghosts, Trees, Database, Held, state, State, HasCleanDisk, Survives, IsRolledBack, survives_then, TableFault, Answer, History, answer, IsLegal, Item, Pictures, IsOfficeWith, Rows, RowsMake, Finds, IsStoredBy, IsLegalAndStored, after_item, Shows, HasSameTables}
use Rattle.office_contents.specs.Calls.{CommitsNothing, Continues}
use Rattle.sqlite.specs.Steps.{FailsToCommit}
use Rattle.sqlite.specs.declared.error.Error.{Error}
use Rattle.sqlite.proofs.Callers.{survives_begin}
use Rattle.sql_meaning.specs.Inside.{GoesOn}

-- ---- what an office has

-- an account of it: a history, or rows
pub record Account (X : Type 0) : Type 1 where
  pub Legal : X → Type 0
  pub Is : X → Database → Type 0

abbrev pub histories : Account History
histories = record { Legal = IsLegal; Is = Pictures }

abbrev pub all_rows : Account Rows
all_rows = record { Legal = λ r. Unit {0}; Is = IsOfficeWith }

-- what a request makes of them
abbrev pub MakesHistory : Item → History → Answer → History → Type 0
MakesHistory item h given next = (given ≡ answer h item.0 item.1.now item.2) × (next ≡ after_item item h)

abbrev pub MakesRows : Item → Rows → Answer → Rows → Type 0
MakesRows item r given next = RowsMake r item given next

-- while the store is open this is so of its database, and all of it is committed
abbrev pub Keeps : (Database → Type 0) → State → Type 0
Keeps P s = IsTrue s.is_open → P s.now × (s.committed ≡ s.now)

-- this is so of what a crash leaves
abbrev pub Leaves : (Database → Type 0) → Trees → Type 0
Leaves P left = (found : Database) × P found × (left ≡ found.trees)

-- while the store is open, a crash leaves what is committed
abbrev pub IsSettled : State → Type 0
IsSettled s = (db : Trees) → IsTrue s.is_open → s.may_leave db → db ≡ s.committed.trees

pub left_settled : (P : Database → Type 0) (s : State) → IsSettled s → IsTrue s.is_open → Keeps P s → (left : Trees) → s.may_leave left → Leaves P left
left_settled P s settled is_open keeps left may = (s.now, (keeps is_open).0, settled left is_open may ∙ ap (λ (d : Database). d.trees) (keeps is_open).1)

-- ---- a transaction

-- a commit that fails has rolled back
pub failed_back : (last end : State) (e : Error) → IsTrue last.in_transaction → FailsToCommit last end e → IsRolledBack last end
failed_back last end e inside (inl h) = h.3
failed_back last end e inside (inr h) = absurd (true≢false (sym inside ∙ h.1))

-- what was done inside it; its Ok is to be committed
pub record IsInside {S T E : Type 0} (g : Ghosts S) (first last : Held S) (done : Result T E) : Type 0 where
  pub committed : IsTrue (state g first).is_open → (state g first).now ≡ (state g first).committed
  pub stays : CommitsNothing g (record first { in_transaction = true }) last
  pub goes_on : Continues g (record first { in_transaction = true }) last done

inside_ok : {T E : Type 0} (old new : State) (done : Result T E) → IsTrue old.in_transaction → OnOk done (GoesOn old new) → OnOk done (IsTrue new.in_transaction)
inside_ok old new (Ok x) inside goes = goes.inside inside
inside_ok old new (Err e) inside goes = tt

module _ {S T E : Type 0} {g : Ghosts S} {first last : Held S} {done : Result T E} (it : IsInside g first last done) (end : Held S) where
  -- what its end may commit
  pub survives_inside : (P Q : Trees → Type 0) → (HasCleanDisk (state g last) → (db : Trees) → P db → Q db) → Survives (state g last) (state g end) P → Survives (state g first) (state g end) Q
  survives_inside P Q commits s =
      survives_then (state g first) (state g last) (state g end) _ _ Q (λ _ db none. absurd none) (λ clean db is. commits (omega (arith, clean, s.clean)) db is) (survives_begin g first (state g last) _ it.stays.survives) s

  module _ (clean : HasCleanDisk (state g last)) where
    pub inside : OnOk done (IsTrue (state g last).in_transaction)
    inside = inside_ok (state g (record first { in_transaction = true })) (state g last) done refl (it.goes_on clean)

    -- rolled back: the tables are as they were
    pub unchanged : IsRolledBack (state g last) (state g end) → HasSameTables (state g first) (state g end)
    unchanged back is_open =
        let kept = it.stays.kept clean refl in
        let was = back.was_open is_open in
        let u = back.undone is_open in
        let first_open = kept.was_open was in
        let same : (state g last).committed ≡ (state g first).now = kept.committed was ∙ sym (it.committed first_open) in
        (first_open, u.0 ∙ same, u.1 ∙ same)

    pub still_kept : (P : Database → Type 0) → IsRolledBack (state g last) (state g end) → Keeps P (state g first) → Keeps P (state g end)
    still_kept P back keeps is_open = let same = unchanged back is_open in (subst P (sym same.1) (keeps same.0).0, same.2 ∙ sym same.1)

    -- what goes on was open
    pub was_open : (x : T) → done ≡ Ok x → IsTrue (state g first).is_open
    was_open x is = let goes = rw is at (it.goes_on clean) in (it.stays.kept clean refl).was_open goes.is_open

-- what an Ok that is committed comes to
pub on_committed : {T E : Type 0} (P shows : Type 0) (done result : Result T E) → ((x : T) → done ≡ Ok x → shows → P) → IfOk result (λ x. (done ≡ Ok x) × shows) → OnOk result P
on_committed P shows done (Ok x) f how = f x how.0 how.1
on_committed P shows done (Err e) f how = tt

-- what is so of an Ok, whatever its value
pub of_ok : {T E P : Type 0} (done : Result T E) → IsOkAnd done (λ _. P) → P
of_ok (Ok x) so = so
of_ok (Err e) none = absurd none

-- what a premise gives of an Ok is so of it under that premise
pub under : {T E Premise : Type 0} (is_so : T → Type 0) (result : Result T E) → (Premise → IfOk result is_so) → IfOk result (λ x. Premise → is_so x)
under is_so (Ok x) told = told
under is_so (Err e) told = tt

-- ---- what a transaction makes of what the office had, in either account

module _ {X T : Type 0} (a : Account X) (Makes : X → T → X → Type 0) where
  -- inside it an Ok has made this
  abbrev pub MakesInside : {S E : Type 0} → Ghosts S → Held S → Held S → Result T E → Type 0
  MakesInside g first last done =
      HasCleanDisk (state g last) → (x : X) → a.Legal x → a.Is x (state g first).now → IfOk done (λ given. (y : X) × Makes x given y × a.Legal y × a.Is y (state g last).now)

  -- a crash leaves what was made
  abbrev pub MadeOf : X → Trees → Type 0
  MadeOf x left = (given : T) × (y : X) × Makes x given y × Leaves (a.Is y) left

  abbrev pub MayCommit : State → Trees → Type 0
  MayCommit s left = IsTrue s.is_open × ((x : X) → a.Legal x → Keeps (a.Is x) s → MadeOf x left)

  pub may_commit : {S E : Type 0} (g : Ghosts S) (first last : Held S) (done : Result T E) → IsInside g first last done → MakesInside g first last done
      → HasCleanDisk (state g last) → (left : Trees) → IsOkAnd done (λ _. left ≡ (state g last).now.trees) → MayCommit (state g first) left
  may_commit g first last (Ok given) it makes clean left is =
      let was_open = (it.stays.kept clean refl).was_open (it.goes_on clean).is_open in
      (was_open, λ x legal keeps. let made = makes clean x legal (keeps was_open).0 in (given, made.0, made.1, ((state g last).now, made.3, is)))
  may_commit g first last (Err e) it makes clean left none = absurd none

  -- it leaves that, or what was there
  pub either_left : (first end : State) → IsSettled first → Survives first end (MayCommit first) → HasCleanDisk end
      → (x : X) → a.Legal x → IsTrue first.is_open → Keeps (a.Is x) first → (left : Trees) → end.may_leave left → Leaves (a.Is x) left ⊎ MadeOf x left
  either_left first end settled survives clean x legal is_open keeps left may = elim (survives.crash clean left may) [
    | inl was ↦ inl (left_settled (a.Is x) first settled is_open keeps left was)
    | inr made ↦ inr (made.1 x legal keeps)
  ]

  -- what is committed is kept, and nothing else is left
  module _ {S E : Type 0} {g : Ghosts S} {first last : Held S} {done : Result T E} (it : IsInside g first last done) (makes : MakesInside g first last done) (end : Held S) (clean : HasCleanDisk (state g last)) (given : T) (is : done ≡ Ok given) where
    abbrev pub IsStoredAs : X → State → Type 0
    IsStoredAs y s = Keeps (a.Is y) s × (IsSettled s → (left : Trees) → s.may_leave left → Leaves (a.Is y) left)

    pub made_inside : (x : X) → a.Legal x → Keeps (a.Is x) (state g first) → (y : X) × Makes x given y × a.Legal y × a.Is y (state g last).now
    made_inside x legal keeps = rw is at (makes clean x legal (keeps (was_open it end clean given is)).0)

    pub committed_as : Shows (state g last) (state g end) (state g last).now (state g last).now false → (x : X) → a.Legal x → Keeps (a.Is x) (state g first) → (y : X) × Makes x given y × a.Legal y × IsStoredAs y (state g end)
    committed_as shows x legal keeps =
        let made = made_inside x legal keeps in (
          made.0,
          made.1,
          made.2,
          (
            λ is_open. (subst (a.Is made.0) (sym shows.now_is) made.3, shows.committed_is ∙ sym shows.now_is),
            λ settled left may. ((state g last).now, made.3, settled left shows.is_open may ∙ ap (λ (d : Database). d.trees) shows.committed_is),
          ),
        )

-- where what is made of it is told by what it was
module _ {X T : Type 0} (a : Account X) (Makes : X → T → X → Type 0) (next : X → X) (told : (x y : X) (given : T) → Makes x given y → y ≡ next x) where
  pub made_next : (x : X) (left : Trees) → MadeOf a Makes x left → Leaves (a.Is (next x)) left
  made_next x left made = subst (λ (y : X). Leaves (a.Is y) left) (told x made.1 made.0 made.2) made.3

  pub commits_next : (s : State) (left : Trees) → MayCommit a Makes s left → IsTrue s.is_open × ((x : X) → a.Legal x → Keeps (a.Is x) s → Leaves (a.Is (next x)) left)
  commits_next s left may = (may.0, λ x legal keeps. made_next x left (may.1 x legal keeps))

  pub either_next : (x : X) (left : Trees) → Leaves (a.Is x) left ⊎ MadeOf a Makes x left → Leaves (a.Is x) left ⊎ Leaves (a.Is (next x)) left
  either_next x left (inl was) = inl was
  either_next x left (inr made) = inr (made_next x left made)

-- what was found inside a transaction that is rolled back is so of the history, which is kept still
module _ {S T : Type 0} (g : Ghosts S) (first last end : Held S) (is_so : History → T → Type 0) (committed : IsTrue (state g first).is_open → (state g first).now ≡ (state g first).committed)
    (stays : CommitsNothing g (record first { in_transaction = true }) last) where
  pub found_kept : (found : Result T TableFault) → Continues g (record first { in_transaction = true }) last found → Finds g (record first { in_transaction = true }) last found is_so
      → HasCleanDisk (state g last) → IsRolledBack (state g last) (state g end)
      → IfOk found (λ x. (h : History) → IsLegal h → IsStoredBy h (state g first) → IsLegalAndStored h (state g end) × is_so h x)
  found_kept (Err e) goes finds clean back = tt
  found_kept (Ok x) goes finds clean back = λ h legal keeps.
      let ok : Result T TableFault = Ok x in
      let it : IsInside g first last ok = record { committed = committed; stays = stays; goes_on = goes } in
      (record { legal = legal; kept = still_kept it end clean (Pictures h) back keeps }, (finds clean h legal (keeps (was_open it end clean x refl)).0).1)
