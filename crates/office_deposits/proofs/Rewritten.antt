-- What a call on the tables that is about contents makes of rows and contents.
use Rattle.office_deposits.proofs.Common.{◌≡◌, Some, refl, Result, Ok, Err, IfOk, MutBor, Database, Ghosts, Held, state, Tables, GoesOnInside, Writes, Does, StoresOnce, LeavesOnce, references_of, Becomes, contents_of, tables_of, TableFault, Contents, contents_in, IsRewrittenBy, Rewrites}
use Rattle.std.specs.Prelude.{OnOk}

module _ (next : Tables → Tables) (keep : Tables → Contents → Contents) where
  all_of : {A : Type 0} (result : Result A TableFault) (old new : Database) → OnOk result (Becomes new (next (tables_of old))) → IfOk result (λ _. contents_of new ≡ (keep (tables_of old) (contents_in old)).rows)
      → IfOk result (λ _. references_of new ≡ (keep (tables_of old) (contents_in old)).references) → (StoresOnce old → OnOk result (StoresOnce new)) → OnOk result (IsRewrittenBy (λ t. Some (next t)) keep old new)
  all_of (Ok x) old new becomes contents references once = record { rows = next (tables_of old); is = refl; becomes = becomes; contents = λ i. record { rows = contents i; references = references i }; once = once }
  all_of (Err fault) old new becomes contents references once = tt

  pub rewrites_by : {S A : Type 0} {g : Ghosts S} {old new : MutBor (Held S)} {result : Result A TableFault} → GoesOnInside g old new result → Writes g old.now new.now result next
      → Does g old.now new.now result (λ was is _. contents_of is ≡ (keep (tables_of was) (contents_in was)).rows) → Does g old.now new.now result (λ was is _. references_of is ≡ (keep (tables_of was) (contents_in was)).references)
      → LeavesOnce g old.now new.now result → Rewrites g old.now new.now result (λ t. Some (next t)) keep
  rewrites_by {g = g} {old = old} {new = new} {result = result} it writes contents references once clean office =
      all_of result (state g old.now).now (state g new.now).now (writes clean office) (contents clean office) (references clean office) (once clean office)
