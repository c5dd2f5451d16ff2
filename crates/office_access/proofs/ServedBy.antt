-- Requests that are served by the rows, and what is written one after another.
use Rattle.office_access.proofs.Common.{◌≡◌, true, Option, Some, None, refl, sym, ap, subst, subst₂, ◌∙◌, Result, Ok, Err, OnOk, on_ok_weaker, Database, Held, state, ◌>>=◌, answer_if, Refusal, Tables, Becomes, IsOffice, tables_of, clean_first, Visit, refusal, allowed_rows}
use Rattle.std.specs.Borrow.{MutBor}
use Rattle.sqlite.specs.Store.{Ghosts}
use Rattle.sqlite.specs.State.{HasCleanDisk}
use Rattle.office_core.specs.declared.answer.Answer.{Answer}
use Rattle.office_core.specs.declared.answer.Answer.TheVariants.{Refused}
use Rattle.office_core.specs.declared.request.Request.{Request}
use Rattle.office_contents.specs.Calls.{GoesOnInTurn, GoesOnInside, Writes}
use Rattle.office_contents.specs.Contents.{AreStoredOnce, HasSameContents, StoresOnce, LeavesContents}
use Rattle.office_contents.specs.declared.fault.TableFault.{TableFault}
use Rattle.office_by_rows.specs.Answers.{allowed_answer}
use Rattle.office_by_rows.specs.Serving.{serve, serve_unless}
use Rattle.office_access.specs.Contents.{Contents, Rows, contents_after, contents_in, rows_of, downloads_intact}
use Rattle.office_access.specs.Serving.{Changes, IsChangedBy, IsRewrittenBy, IsServedBy, Rewrites, rows_after, serve_rows}

-- ---- what is written

-- a change may be said by other functions that make the same of rows and contents
pub rewritten_as : {old new : Database} (change same : Tables → Option Tables) (keep kept : Tables → Contents → Contents) → change (tables_of old) ≡ same (tables_of old) → keep (tables_of old) (contents_in old) ≡ kept (tables_of old) (contents_in old)
    → IsRewrittenBy change keep old new → IsRewrittenBy same kept old new
rewritten_as change same keep kept alike contents changed = record { rows = changed.rows; is = sym alike ∙ changed.is; becomes = changed.becomes; contents = changed.contents ∙ contents; once = changed.once }

pub changed_as : {old new : Database} (change same : Tables → Option Tables) → change (tables_of old) ≡ same (tables_of old) → IsChangedBy change old new → IsChangedBy same old new
changed_as change same alike = rewritten_as change same (λ t k. k) (λ t k. k) alike refl

-- what was read before it changed nothing
pub rewritten_after : {old mid new : Database} (change : Tables → Option Tables) (keep : Tables → Contents → Contents) → mid ≡ old → IsRewrittenBy change keep mid new → IsRewrittenBy change keep old new
rewritten_after {new = new} change keep same changed = subst (λ db. IsRewrittenBy change keep db new) same changed

pub changed_after : {old mid new : Database} (change : Tables → Option Tables) → mid ≡ old → IsChangedBy change mid new → IsChangedBy change old new
changed_after change = rewritten_after change (λ t k. k)

-- nothing is written, where the change makes the same rows
pub unchanged_by : {old new : Database} (change : Tables → Option Tables) → IsOffice old → new ≡ old → change (tables_of old) ≡ Some (tables_of old) → IsChangedBy change old new
unchanged_by {old = old} change office same is = record {
  rows = tables_of old;
  is = is;
  becomes = record { office = subst IsOffice (sym same) office; are = ap tables_of same };
  contents = ap contents_in same;
  once = subst StoresOnce (sym same);
}

-- what a call on the tables writes that leaves contents as they are
contents_same : {old new : Database} → HasSameContents old new → contents_in new ≡ contents_in old
contents_same same i = record { rows = same.contents i; references = same.references i }

still_once : {old new : Database} → HasSameContents old new → StoresOnce old → StoresOnce new
still_once same = subst₂ AreStoredOnce (sym same.references) (sym same.contents)

both_of : {A : Type 0} (result : Result A TableFault) (next : Tables → Tables) (old new : Database) → OnOk result (Becomes new (next (tables_of old))) → OnOk result (HasSameContents old new) → OnOk result (IsChangedBy (λ t. Some (next t)) old new)
both_of (Ok x) next old new becomes same = record { rows = next (tables_of old); is = refl; becomes = becomes; contents = contents_same same; once = still_once same }
both_of (Err fault) next old new becomes same = tt

pub changes_by : {S A : Type 0} {g : Ghosts S} {old new : MutBor (Held S)} {result : Result A TableFault} → GoesOnInside g old new result → (next : Tables → Tables) → Writes g old.now new.now result next → LeavesContents g old.now new.now result
    → Changes g old.now new.now result (λ t. Some (next t))
changes_by {g = g} {old = old} {new = new} {result = result} it next writes leaves clean office = both_of result next (state g old.now).now (state g new.now).now (writes clean office) (leaves clean office)

-- ---- a second call writes over what the first wrote

-- what the second makes of the contents, by the rows that the first left, is what both make of them by the rows before
abbrev pub KeepInTurn : (Tables → Option Tables) → (first next both : Tables → Contents → Contents) → Type 0
KeepInTurn change first next both = (t mid : Tables) → change t ≡ Some mid → (k : Contents) → next mid (first t k) ≡ both t k

module _ {S A B : Type 0} (g : Ghosts S) (old mid new : Held S) (x : A) (second : Result B TableFault) (first next : Tables → Option Tables) (keep_first keep_next keep : Tables → Contents → Contents) (in_turn : KeepInTurn first keep_first keep_next keep) where
  composed : (HasCleanDisk (state g new) → HasCleanDisk (state g mid)) → Rewrites {E = TableFault} g old mid (Ok x) first keep_first → Rewrites {E = TableFault} g mid new second next keep_next → Rewrites {E = TableFault} g old new second (λ t. first t >>= next) keep
  composed early wrote writes clean office =
      let made = wrote (early clean) office in
      let t = tables_of (state g old).now in
      on_ok_weaker second (λ then. record {
        rows = then.rows;
        is = ap (λ o. o >>= next) made.is ∙ ap next (sym made.becomes.are) ∙ then.is;
        becomes = then.becomes;
        contents = then.contents ∙ (λ i. keep_next (made.becomes.are i) (made.contents i)) ∙ in_turn t made.rows made.is (contents_in (state g old).now);
        once = λ was. then.once (made.once was);
      }) (writes clean made.becomes.office)

module _ {S A B : Type 0} {g : Ghosts S} {old mid new : MutBor (Held S)} {x : A} {second : Result B TableFault} where
  pub rewrites_then : GoesOnInside g old mid (Ok x) → GoesOnInside g mid new second → (first next : Tables → Option Tables) (keep_first keep_next keep : Tables → Contents → Contents) → KeepInTurn first keep_first keep_next keep
      → Rewrites {E = TableFault} g old.now mid.now (Ok x) first keep_first → Rewrites {E = TableFault} g mid.now new.now second next keep_next → Rewrites {E = TableFault} g old.now new.now second (λ t. first t >>= next) keep
  rewrites_then before after first next keep_first keep_next keep in_turn = composed g old.now mid.now new.now x second first next keep_first keep_next keep in_turn (clean_first after.stays)

  pub changes_then : GoesOnInside g old mid (Ok x) → GoesOnInside g mid new second → (first next : Tables → Option Tables) → Changes {E = TableFault} g old.now mid.now (Ok x) first → Changes {E = TableFault} g mid.now new.now second next
      → Changes {E = TableFault} g old.now new.now second (λ t. first t >>= next)
  changes_then before after first next = composed g old.now mid.now new.now x second first next (λ t k. k) (λ t k. k) (λ t k. k) (λ t mid is k. refl) (clean_first after.stays)

  -- the second is calls in turn
  pub rewrites_then_in_turn : GoesOnInside g old mid (Ok x) → GoesOnInTurn g mid new second → (first next : Tables → Option Tables) (keep_first keep_next keep : Tables → Contents → Contents) → KeepInTurn first keep_first keep_next keep
      → Rewrites {E = TableFault} g old.now mid.now (Ok x) first keep_first → Rewrites {E = TableFault} g mid.now new.now second next keep_next → Rewrites {E = TableFault} g old.now new.now second (λ t. first t >>= next) keep
  rewrites_then_in_turn before after first next keep_first keep_next keep in_turn = composed g old.now mid.now new.now x second first next keep_first keep_next keep in_turn (clean_first after.stays)

  -- the first is calls in turn, as in a loop
  pub changes_next : GoesOnInTurn g old mid (Ok x) → GoesOnInside g mid new second → (first next : Tables → Option Tables) → Changes {E = TableFault} g old.now mid.now (Ok x) first → Changes {E = TableFault} g mid.now new.now second next
      → Changes {E = TableFault} g old.now new.now second (λ t. first t >>= next)
  changes_next before after first next = composed g old.now mid.now new.now x second first next (λ t k. k) (λ t k. k) (λ t k. k) (λ t mid is k. refl) (clean_first after.stays)

-- ---- a request

-- the rows that a request comes to, where its answer serves only what is intact
takes_rows_step : (r : Rows) (visit : Visit) (request : Request) (given : Answer) (next : Tables) → serve r.tables visit request ≡ Some (given, next) → downloads_intact r request given ≡ true
    → serve_rows r visit request ≡ Some (given, rows_after r request given next)
takes_rows_step r visit request given next is intact =
    ap (λ (o : Option (Answer × Tables)). o >>= λ served. answer_if (downloads_intact r request served.0) (served.0, rows_after r request served.0 served.1)) is
    ∙ ap (λ b. answer_if b (given, rows_after r request given next)) intact

module _ (visit : Visit) (request : Request) where
  -- it is refused, and no row changes
  pub refused_by : {old new : Database} (why : Refusal) → IsOffice old → new ≡ old → refusal (tables_of old) visit request ≡ Some (Some why) → IsServedBy visit request old new (Refused why)
  refused_by {old = old} why office same refused = record {
    rows = rows_of old;
    is = takes_rows_step (rows_of old) visit request (Refused why) (tables_of old) (ap (λ o. o >>= λ refused. serve_unless refused (tables_of old) visit request) refused) refl;
    leaves = record { office = subst IsOffice (sym same) office; are = ap rows_of same };
    once = subst StoresOnce (sym same);
  }

  -- it is allowed, after what was read rows and contents change, and this is answered, which serves only what is intact
  pub allowed_by : {old mid new : Database} (given : Answer) → downloads_intact (rows_of old) request given ≡ true → mid ≡ old → refusal (tables_of old) visit request ≡ Some None → allowed_answer (tables_of old) visit request ≡ Some given
      → IsRewrittenBy (λ t. allowed_rows t visit request) (λ t. contents_after t request given) mid new → IsServedBy visit request old new given
  allowed_by {old = old} given intact same refused answered changed =
      let t = tables_of old in
      let it = rewritten_after (λ t. allowed_rows t visit request) (λ t. contents_after t request given) same changed in
      record {
        rows = rows_after (rows_of old) request given it.rows;
        is = takes_rows_step (rows_of old) visit request given it.rows (ap (λ o. o >>= λ refused. serve_unless refused t visit request) refused ∙ (λ i. answered i >>= λ given. it.is i >>= λ next. Some (given, next))) intact;
        leaves = record { office = it.becomes.office; are = λ i. record { tables = it.becomes.are i; contents = it.contents i } };
        once = it.once;
      }

  -- it is allowed and changes nothing, and this is answered
  pub read_by : {old new : Database} (given : Answer) → downloads_intact (rows_of old) request given ≡ true → ((k : Contents) → contents_after (tables_of old) request given k ≡ k) → IsOffice old → new ≡ old → refusal (tables_of old) visit request ≡ Some None → allowed_answer (tables_of old) visit request ≡ Some given
      → allowed_rows (tables_of old) visit request ≡ Some (tables_of old) → IsServedBy visit request old new given
  read_by {old = old} given intact leaves office same refused answered none =
      let reads : Tables → Option Tables = λ t. allowed_rows t visit request in
      allowed_by given intact refl refused answered (rewritten_as reads reads (λ t k. k) (λ t. contents_after t request given) refl (sym (leaves (contents_in old))) (unchanged_by reads office same none))
