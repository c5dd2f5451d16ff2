-- How the transaction of one request ends.
use Rattle.office_engine.proofs.Common.{◌≡◌, ◌⊎◌, inl, inr, Some, Bool, true, false, Result, Ok, Err, OnOk, IsOkAnd, IsTrue, refl, sym, subst, ap, ◌∙◌, true≢false, Ghosts, Trees, Database, Held, state, State, HasCleanDisk, Survives, survives_weaker, IsRolledBack, IsOffice, TableFault, Answer, History, with_changes, Item, grown_by_none, visit_on, Rows, IsServedBy, Serves, CommitsTo, IsLeftOf, IsTurn, LeavesAlso, after_item, is_accepted, Shows, IsFailure}
use Rattle.office_engine.proofs.Accepted.{no_change}
use Rattle.office_engine.proofs.Ends.{Account, IsInside, IsSettled, Keeps, MakesHistory, MakesInside, MakesRows, MayCommit, all_rows, committed_as, either_left, either_next, histories, inside, made_inside, of_ok, still_kept, unchanged, was_open}
use Rattle.office_engine.proofs.RowsAccepted.{rows_stay}
use Rattle.office_core.proofs.OptionLemmas.{by_Bool}

-- the trees are those inside the transaction, where what was decided tells of a change
abbrev pub Makes : State → Result Answer TableFault → Trees → Type 0
Makes last decided left = IsOkAnd decided (λ given. IsTrue (is_accepted given) × (left ≡ last.now.trees))

pub makes_left : (last : State) (decided : Result Answer TableFault) (left : Trees) → Makes last decided left → IsOkAnd decided (λ _. left ≡ last.now.trees)
makes_left last (Ok given) left makes = makes.1
makes_left last (Err stopped) left none = none

-- what is open only where another was
shut_still : (b c : Bool) → (IsTrue b → IsTrue c) → c ≡ false → b ≡ false
shut_still true c was shut = absurd (true≢false (sym (was refl) ∙ shut))
shut_still false c was shut = refl

-- an answer that tells of no change leaves the history as it was
still_history : (item : Item) (given : Answer) → is_accepted given ≡ false → (h next : History) → MakesHistory item h given next → MakesHistory item h given h
still_history item given none h next makes = (makes.0, grown_by_none h ∙ sym (ap (with_changes h) (no_change h item.0 item.1.now item.2 given makes.0 none)))

still_rows : (item : Item) (given : Answer) → is_accepted given ≡ false → (r next : Rows) → MakesRows item r given next → MakesRows item r given r
still_rows item given none r next makes = makes ∙ ap (λ (rows : Rows). Some (given, rows)) (rows_stay given none r next (visit_on item.0 item.1.now) item.2 makes)

module _ {S : Type 0} {g : Ghosts S} {first last : Held S} {decided : Result Answer TableFault} (it : IsInside g first last decided) (end : Held S) (given : Answer) (early : HasCleanDisk (state g last)) where
  -- a change was committed; or all was rolled back, with an answer that tells of none or with a failure
  abbrev Ends : Type 0
  Ends =
      ((decided ≡ Ok given) × IsTrue (is_accepted given) × Shows (state g last) (state g end) (state g last).now (state g last).now false)
      ⊎ ((is_accepted given ≡ false) × IsRolledBack (state g last) (state g end) × ((decided ≡ Ok given) ⊎ IsFailure given))

  pub how : (told : (decided ≡ Ok given) ⊎ IsFailure given) (committed : IsTrue (is_accepted given) → (decided ≡ Ok given) × Shows (state g last) (state g end) (state g last).now (state g last).now false)
      (dropped : OnOk decided (IsTrue (state g last).in_transaction) → is_accepted given ≡ false → IsRolledBack (state g last) (state g end)) → Ends
  how told committed dropped =
      by_Bool (is_accepted given) (λ accepted. let made = committed accepted in inl (made.0, accepted, made.1)) (λ none. inr (none, dropped (inside it end early) none, told))

  -- what the office has after it, in either account
  module _ {X : Type 0} (a : Account X) (Makes : X → Answer → X → Type 0) (makes : MakesInside a Makes g first last decided) where
    moved : (is_accepted given ≡ false → (x y : X) → Makes x given y → Makes x given x) → Ends → (x : X) → a.Legal x → Keeps (a.Is x) (state g first)
        → (y : X) × ((IsFailure given × (y ≡ x)) ⊎ Makes x given y) × a.Legal y × Keeps (a.Is y) (state g end)
    moved still ends x legal keeps = elim ends [
      | inl changed ↦ let made = committed_as a Makes it makes end early given changed.0 changed.2 x legal keeps in (made.0, inr made.1, made.2, made.3.0)
      | inr kept ↦
          let same = still_kept it end early (a.Is x) kept.1 keeps in
          elim kept.2 [
            | inl is ↦ let made = made_inside a Makes it makes end early given is x legal keeps in (x, inr (still kept.0 x made.0 made.1), legal, same)
            | inr fails ↦ (x, inl (fails, refl), legal, same)
          ]
    ]

  module _ (item : Item) (makes_history : MakesInside histories (MakesHistory item) g first last decided) (makes_rows : MakesInside all_rows (MakesRows item) g first last decided) (serves : Serves g (record first { in_transaction = true }) last decided (visit_on item.0 item.1.now) item.2)
      (settled : (s : Held S) → IsSettled (state g s)) (late : HasCleanDisk (state g end)) (crash : (left : Trees) → (state g end).may_leave left → (state g first).may_leave left ⊎ Makes (state g last) decided left)
      (survives_history : Survives (state g first) (state g end) (MayCommit histories (MakesHistory item) (state g first))) (survives : Survives (state g first) (state g end) (CommitsTo (state g first) (after_item item)))
      (survives_rows : Survives (state g first) (state g end) (MayCommit all_rows (MakesRows item) (state g first))) where
    none_made : is_accepted given ≡ false → decided ≡ Ok given → {P : Type 0} (left : Trees) → Makes (state g last) decided left → P
    none_made none is left makes = let made : IsTrue (is_accepted given) × (left ≡ (state g last).now.trees) = rw is at makes in absurd (true≢false (sym made.0 ∙ none))

    also_made : LeavesAlso (state g first) (state g end) (state g last).now.trees
    also_made left may = elim (crash left may) [
      | inl was ↦ inl was
      | inr makes ↦ inr (of_ok decided (makes_left (state g last) decided left makes))
    ]

    served_by : IsOffice (state g first).now → decided ≡ Ok given → IsServedBy (visit_on item.0 item.1.now) item.2 (state g first).now (state g last).now given
    served_by office is = rw is at (serves early office)

    shuts : decided ≡ Ok given → (state g first).is_open ≡ false → {P : Type 0} → P
    shuts is shut = absurd (true≢false (sym (was_open it end early given is) ∙ shut))

    pub turn : Ends → IsTurn (state g first) (state g end) item given
    turn ends = record {
      served = λ h legal keeps. let it = moved histories (MakesHistory item) makes_history (still_history item given) ends h legal keeps in (it.0, it.1, record { legal = it.2; kept = it.3 });
      kept = λ none. elim ends [ inl changed ↦ absurd (true≢false (sym changed.1 ∙ none)) | inr kept ↦ unchanged it end early kept.1 ];
      rows = λ answered office. elim ends [
        | inl changed ↦ let served = served_by office changed.0 in (served.rows, served.is)
        | inr kept ↦ elim kept.2 [ inl is ↦ let served = served_by office is in (served.rows, served.is) | inr fails ↦ absurd (answered fails) ]
      ];
      shut = λ shut. elim ends [
        | inl changed ↦ shuts changed.0 shut
        | inr kept ↦ elim kept.2 [ inl is ↦ shuts is shut | inr fails ↦ (fails, shut_still (state g end).is_open (state g first).is_open (λ is_open. (unchanged it end early kept.1 is_open).0) shut) ]
      ];
      survives = survives;
      durable = λ h legal keeps answered changes. elim ends [
        | inl changed ↦
            let made = committed_as histories (MakesHistory item) it makes_history end early given changed.0 changed.2 h legal keeps in
            subst (λ (k : History). (left : Trees) → (state g end).may_leave left → IsLeftOf k left) made.1.1 (made.3.1 (settled end))
        | inr kept ↦ elim kept.2 [
          | inl is ↦ absurd (changes (no_change h item.0 item.1.now item.2 given (made_inside histories (MakesHistory item) it makes_history end early given is h legal keeps).1.0 kept.0))
          | inr fails ↦ absurd (answered fails)
        ]
      ];
      leaves = λ h legal is_open keeps left may.
          either_next histories (MakesHistory item) (after_item item) (λ x y given makes. makes.1) h left (either_left histories (MakesHistory item) (state g first) (state g end) (settled first) survives_history late h legal is_open keeps left may);
      made = record {
        made = (state g last).now.trees;
        also = also_made;
        accepted = λ accepted. elim ends [ inl changed ↦ ap (λ (d : Database). d.trees) (sym changed.2.now_is) | inr kept ↦ absurd (true≢false (sym accepted ∙ kept.0)) ];
        none = λ none answered left may. elim (crash left may) [
          | inl was ↦ was
          | inr makes ↦ elim ends [
            | inl changed ↦ none_made none changed.0 left makes
            | inr kept ↦ elim kept.2 [ inl is ↦ none_made none is left makes | inr fails ↦ absurd (answered fails) ]
          ]
        ];
      };
      survives_rows = survives_weaker (state g first) (state g end) _ _ (λ _ db may. (may.0, λ r. may.1 r tt)) survives_rows;
      takes_rows_step = λ r has. let it = moved all_rows (MakesRows item) makes_rows (still_rows item given) ends r tt has in (it.0, it.1, it.3);
      leaves_rows = λ r is_open has. either_left all_rows (MakesRows item) (state g first) (state g end) (settled first) survives_rows late r tt is_open has;
      durable_rows = λ r has accepted. elim ends [
        | inl changed ↦ let made = committed_as all_rows (MakesRows item) it makes_rows end early given changed.0 changed.2 r tt has in (made.0, made.1, made.3.1 (settled end))
        | inr kept ↦ absurd (true≢false (sym accepted ∙ kept.0))
      ];
    }
