-- Requests about a kept deposit: it is asked for first, and then what is answered is read.
use Rattle.office_queries.proofs.Common.{◌≡◌, ℕ, pos, Some, ap, sym, subst, ◌∙◌, Result, Ok, Err, IfOk, MutBor, IfOk-weaker, Database, Ghosts, Held, state, Refusal, Request, DepositRow, Tables, deposit_numbered, GoesOnInTurn, GoesOnInside, Shows, tables_of, TableFault, clean_first, Visit, office_still, read_by, refused_by}
use Rattle.std.specs.Result.{result_err}
use Rattle.office_core.specs.declared.answer.Answer.{Answer}
use Rattle.office_core.specs.declared.answer.Answer.TheVariants.{Refused}
use Rattle.office_contents.specs.Contents.{Does}
use Rattle.office_by_rows.specs.Changes.{allowed_rows}
use Rattle.office_by_rows.specs.Refusals.{refusal}
use Rattle.office_queries.specs.Reading.{IsReadFor, ServesReading}

module _ {S D : Type 0} {g : Ghosts S} {old mid : MutBor (Held S)} {asked : Result D Refusal} (visit : Visit) (request : Request) (before : GoesOnInside g old mid (Ok asked))
    (told : Shows {E = TableFault} g old.now mid.now (Ok asked) (λ t asked. refusal t visit request ≡ Some (result_err asked))) where
  -- it is refused
  pub refused_after : {why : Refusal} → asked ≡ Err why → ServesReading {E = TableFault} g old.now mid.now (Ok (Refused why)) visit request
  refused_after {why = why} is clean office =
      let free = told clean office in
      (free.0, refused_by visit request why office free.0 (free.1 ∙ ap (λ asked. Some (result_err asked)) is))

  -- it isn't
  pub answered_after : {new : MutBor (Held S)} {result : Result Answer TableFault} {row : D} → asked ≡ Ok row → GoesOnInTurn g mid new result → ((t : Tables) → allowed_rows t visit request ≡ Some t)
      → Does g mid.now new.now result (IsReadFor request) → ServesReading g old.now new.now result visit request
  answered_after {new = new} {result = result} is after none reads clean office =
      let free = told (clean_first after.stays clean) office in
      IfOk-weaker result _ _ (λ given read.
      let it = subst (λ db. IsReadFor request db (state g new.now).now given) free.0 read in
      (it.same, read_by visit request given it.intact it.leaves office it.same (free.1 ∙ ap (λ asked. Some (result_err asked)) is) (it.answered visit) (none _)))
      (reads clean (office_still free.0 office))

abbrev HasRow : ℕ → Database → DepositRow → Type 0
HasRow number db row = deposit_numbered (pos number) (tables_of db).deposits ≡ Some row

-- the same where what is read rests on the row of the deposit
module _ {S : Type 0} {g : Ghosts S} {old mid new : MutBor (Held S)} {asked : Result DepositRow Refusal} {result : Result Answer TableFault} {row : DepositRow} (visit : Visit) (request : Request) (number : ℕ) where
  pub answered_by_row : GoesOnInside g old mid (Ok asked) → Shows {E = TableFault} g old.now mid.now (Ok asked) (λ t asked. refusal t visit request ≡ Some (result_err asked))
      → Shows {E = TableFault} g old.now mid.now (Ok asked) (λ t asked. IfOk asked (λ row. deposit_numbered (pos number) t.deposits ≡ Some row)) → asked ≡ Ok row → GoesOnInTurn g mid new result
      → ((t : Tables) → allowed_rows t visit request ≡ Some t) → Does g mid.now new.now result (λ db next given. HasRow number db row → IsReadFor request db next given) → ServesReading g old.now new.now result visit request
  answered_by_row before told rows is after none reads clean office =
      let there = rows (clean_first after.stays clean) office in
      let found : HasRow number (state g old.now).now row = subst (λ asked. IfOk asked (HasRow number (state g old.now).now)) is there.1 in
      let still = subst (λ db. HasRow number db row) (sym there.0) found in
      answered_after visit request before told is after none (λ clean office. IfOk-weaker result _ _ (λ given read. read still) (reads clean office)) clean office
