-- Rows that a loop puts one after another: what is so before each turn, and that a turn keeps it.
use Rattle.office_tables.proofs.FirstLemmas.{◌≡◌, ℕ, List, ◌∷◌, drop, slice_index_or as get_or, length, ◌+◌, ◌<◌, Ok, MutBor, Ghosts, HasCleanDisk, Held, state, Tables, GoesOnInside, GoesOnInTurn, Writes, LeavesContents, IsOffice, tables_of, TableFault, same_after}
use Rattle.office_contents.proofs.InTurn.{clean_first, turn_next}
use Rattle.office_tables.proofs.PolicyLemmas.{next_added}

-- all but the rest of the rows are put
pub record ArePut {S X : Type 0} (g : Ghosts S) (put_each : List X → Tables → Tables) (all rest : List X) (old now : MutBor (Held S)) : Type 0 where
  pub inside : GoesOnInTurn {T = Unit {0}} g old now (Ok tt)
  pub becomes : HasCleanDisk (state g now.now) → IsOffice (state g old.now).now → IsOffice (state g now.now).now × (put_each rest (tables_of (state g now.now).now) ≡ put_each all (tables_of (state g old.now).now))
  pub contents : LeavesContents {T = Unit {0}} {E = TableFault} g old.now now.now (Ok tt)

module _ {X : Type 0} (put : X → Tables → Tables) (put_each : List X → Tables → Tables) (in_turn : (x : X) (xs : List X) (t : Tables) → put_each (x ∷ xs) t ≡ put_each xs (put x t)) where
  pub puts_next : {S : Type 0} {g : Ghosts S} {old now new : MutBor (Held S)} {count : ℕ} (all : List X) (i : ℕ) (x : X) → x ≡ get_or all i x → i < length all → ArePut g put_each all (drop i all) old now
      → GoesOnInside g now new (Ok count) → Writes {E = TableFault} g now.now new.now (Ok count) (put x) → LeavesContents {E = TableFault} g now.now new.now (Ok count) → ArePut g put_each all (drop (i + 1) all) old new
  puts_next {g = g} {old} {now} {new} all i x is low before inside writes contents = record {
    inside = turn_next before.inside inside;
    becomes = λ clean office.
        let there = before.becomes (clean_first inside.stays clean) office in
        next_added put put_each in_turn all i x is low (tables_of (state g old.now).now) (state g now.now).now (state g new.now).now (writes clean there.0) there.1;
    contents = λ clean office.
        let early = clean_first inside.stays clean in
        same_after (before.contents early office) (contents clean (before.becomes early office).0);
  }
