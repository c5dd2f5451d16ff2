-- What the query on the office's row means under any schema.
use Rattle.office_tables.proofs.Common.{◌≡◌, ℤ, MatchOption, List, [], ◌∷◌, Bool, true, false, cond, Option, None, Some, Ok, Err, refl, sym, ap, subst, ◌∙◌, inl, inr, AllByRecursion, cases_Bool, Has, everything, Schema, Command, Row, column, Int, Database, understood, reads_listing, if_select, is_select, listing_schema, State, Shown, IsUnchanged, look_text, Looks, ShowsVersion, shows_office, known_row}
use Rattle.sqlite_resolve.specs.Compile.{compiled, first, planned, meaning, returning, timed, with_command}
use Rattle.sqlite_resolve.specs.Lowering.{Checked, and_then}
use Rattle.sqlite_resolve.specs.declared.error.CompileError.TheVariants.{NoSuchTable}
use Rattle.sqlite_resolve.specs.declared.compiled.Compiled.{Compiled}
use Rattle.sqlite_syntax.specs.declared.statement.Parsed.{Parsed}
use Rattle.sqlite_ast.specs.declared.Statement.TheVariants as written

-- the text is a SELECT without parameters or the time
look_parsed : (p : Parsed) × (s : _) × (first look_text ≡ Ok p) × (p.statement ≡ written.Select s) × (p.formats ≡ []) × (p.names ≡ [])
unfolding everything
look_parsed = (_, _, refl, refl, refl, refl)

via : (p : Parsed) (r : Checked Command) (c : Compiled) → and_then (and_then (and_then r (λ c. Ok (c, None))) (λ found. Ok ([], found))) (λ plan. Ok (with_command p plan)) ≡ Ok c → (c.returning ≡ None) × (c.formats ≡ [])
via p (Ok command) c h = let same : with_command p ([], (command, None)) ≡ c = cc in (sym (ap (λ (k : Compiled). k.returning) same), sym (ap (λ (k : Compiled). k.formats) same))
via p (Err e) c h = absurd cc

plain_from : (schema : Schema) (p : Parsed) (s : _) (c : Compiled) → p.statement ≡ written.Select s → p.formats ≡ [] → and_then (planned schema p) (λ plan. Ok (with_command p plan)) ≡ Ok c → (c.returning ≡ None) × (c.formats ≡ [])
unfolding planned meaning returning timed
plain_from schema p s c is none h = via p _ c (rw (is, none) at h)

compiled_plain : (schema : Schema) (c : Compiled) → compiled schema look_text ≡ Ok c → (c.returning ≡ None) × (c.formats ≡ [])
unfolding compiled
compiled_plain schema c h = let l = look_parsed in plain_from schema l.0 l.1 c l.3 l.4 (rw l.2 at h)

selected : (r : Checked Compiled) (c : Compiled) → if_select r ≡ Ok c → r ≡ Ok c
selected (Ok k) c h = chosen (is_select k.command) h
  where
    chosen : (b : Bool) → cond b (Ok k) (Err NoSuchTable) ≡ Ok c → ◌≡◌ {A = Checked Compiled} (Ok k) (Ok c)
    chosen true h = h
    chosen false h = absurd cc
selected (Err e) c h = absurd cc

plain_by : (schema : Schema) (c : Compiled) (b : Bool) → cond b (if_select (compiled listing_schema look_text)) (compiled schema look_text) ≡ Ok c → (c.returning ≡ None) × (c.formats ≡ [])
plain_by schema c true h = compiled_plain listing_schema c (selected _ c h)
plain_by schema c false h = compiled_plain schema c h

pub look_plain : (schema : Schema) (c : Compiled) → understood schema look_text ≡ Ok c → (c.returning ≡ None) × (c.formats ≡ [])
unfolding understood
look_plain schema c h = plain_by schema c (reads_listing schema look_text) h

pub looks : (old new : State) (rows : List Row) → Shown look_text [] old new rows → Looks old.now rows × IsUnchanged old new
unfolding Shown
looks old new rows h =
    let plain = look_plain old.now.schema h.0 h.1.is in
    let it = rw (plain.0, plain.1) at h.2 in
    ((h.0, it.0, h.1.is, it.1, it.2), it.3)

pub shows_version : (db : Database) (rows : List Row) (r : Option ℤ) → Looks db rows
    → MatchOption r (known_row rows ≡ None) (λ version. (row : Row) × (known_row rows ≡ Some row) × (column row 1 ≡ Int version)) → ShowsVersion db r
shows_version db rows None look h = (rows, look, h)
shows_version db rows (Some version) look h = (rows, h.0, look, h.1, h.2)

-- ---- the first row that is an office's

pub passed_over : (x y : Row) (more : List Row) → x ≡ y → shows_office x ≡ false → known_row (y ∷ more) ≡ known_row more
passed_over x y more same isnt = let other : shows_office y ≡ false = subst (λ r. shows_office r ≡ false) same isnt in rw other refl

pub all_passed_over : (rows : List Row) → known_row rows ≡ None → AllByRecursion (λ row. shows_office row ≡ false) rows
all_passed_over [] none = tt
all_passed_over (r ∷ rows) none = elim (cases_Bool (shows_office r)) [
  | inl is ↦ absurd (let there : Some r ≡ None = rw is at none in cc)
  | inr isnt ↦ (isnt, all_passed_over rows (rw isnt at none))
]

pub known_there : (rows : List Row) (row : Row) → known_row rows ≡ Some row → Has rows row × (shows_office row ≡ true)
known_there [] row known = absurd cc
known_there (r ∷ rows) row known = elim (cases_Bool (shows_office r)) [
  | inl is ↦
      let first : Some r ≡ Some row = rw is at known in
      let same : row ≡ r = cc in
      (inl same, ap shows_office same ∙ is)
  | inr isnt ↦ let later = known_there rows row (rw isnt at known) in (inr later.0, later.1)
]
