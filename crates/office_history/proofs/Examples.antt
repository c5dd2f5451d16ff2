-- Worked rows of the definitions, by computing. Days are any days.
use Rattle.office_history.proofs.Common.{◌≡◌, ℕ, List, [], ◌∷◌, Some, None, codes, refl, pos, neg_ℤ, Date, epoch_day, due_of, NoSuch, DeniedByDefault, Taken, Dispose, Allow, Deny, History, Change, Installed, DefinedClass, DefinedCollection, Deposited, PlacedHold, ReleasedHold, Destroyed, Deposit, OnDeposit, OnCollection, OnClass, destruction_day, kept_numbers, due, live_holds, refusal, taken_refusal, in_first_places, due_number, picture}
use Rattle.office_core.specs.declared.refusal.Subject.TheVariants as subjects
use Rattle.office_core.specs.declared.action.Action.TheVariants as acts
use Rattle.office_core.specs.declared.rule.ActionPattern.TheVariants as asked
use Rattle.office_core.specs.declared.rule.Pattern.TheVariants.{Any, Named}

-- a deposit of the collection `maps` in the class `y1`
deposited : Date → List ℕ → Deposit
deposited closed accession = record { description = record { collection = codes "maps"; class = codes "y1"; accession = accession; closed = closed }; bag = [] }

worked_then : Date → List Change → History
worked_then day more = record {
  max_deposits = 10;
  max_holds = 10;
  changes =
      DefinedClass day (codes "y1") (Some 1)
      ∷ DefinedCollection day (codes "maps")
      ∷ PlacedHold day (record { target = OnCollection (codes "maps"); matter = codes "Case 7" })
      ∷ Deposited day (deposited day (codes "A-1"))
      ∷ Deposited day (deposited day (codes "A-2"))
      ∷ PlacedHold day (record { target = OnDeposit 2; matter = codes "Case 8" })
      ∷ more;
}

-- a hold of the collection, two deposits, a hold of the second, then the first hold is released and the first deposit destroyed
worked : Date → History
worked day = worked_then day []

later : Date → History
later day = worked_then day (ReleasedHold day 1 ∷ Destroyed day 1 ∷ DefinedClass day (codes "y1") None ∷ [])

-- a hold of the class of the deposits, one of another class, and one more deposit
classes_held : Date → List Change
classes_held day =
    PlacedHold day (record { target = OnClass (codes "y1"); matter = codes "Case 9" })
    ∷ PlacedHold day (record { target = OnClass (codes "y2"); matter = codes "Case 10" })
    ∷ Deposited day (deposited day (codes "A-3"))
    ∷ []

-- a hold of a collection covers what came later, and one of a deposit that alone
both_cover : (day : Date) → live_holds (worked day) 2 (deposited day (codes "A-2")) ≡ 1 ∷ 2 ∷ []
unfolding deposited worked_then worked
both_cover day = refl

one_covers : (day : Date) → live_holds (worked day) 1 (deposited day (codes "A-1")) ≡ 1 ∷ []
unfolding deposited worked_then worked
one_covers day = refl

-- a hold of a class covers each deposit of the class, whichever came first, and one of another class none
classes_cover : (day : Date) → live_holds (worked_then day (classes_held day)) 1 (deposited day (codes "A-1")) ≡ 1 ∷ 3 ∷ []
unfolding deposited worked_then classes_held
classes_cover day = refl

class_covers_later : (day : Date) → live_holds (worked_then day (classes_held day)) 3 (deposited day (codes "A-3")) ≡ 1 ∷ 3 ∷ []
unfolding deposited worked_then classes_held
class_covers_later day = refl

-- a hold that was released covers nothing more
released_covers_none : (day : Date) → live_holds (later day) 2 (deposited day (codes "A-2")) ≡ 2 ∷ []
unfolding deposited worked_then later
released_covers_none day = refl

-- a destroyed deposit is gone, and keeps its number and its accession
destroyed_is_gone : (day : Date) → destruction_day (later day) 1 ≡ Some day
unfolding deposited worked_then later
destroyed_is_gone day = refl

others_are_kept : (day : Date) → kept_numbers (later day) ≡ 2 ∷ []
unfolding deposited worked_then later
others_are_kept day = refl

accession_stays : (day : Date) → taken_refusal (later day) (codes "A-1") ≡ Some (Taken 1)
unfolding deposited worked_then later
accession_stays day = refl

-- a class has the years that it was given last, and so have the due days of its deposits
years_before : (day : Date) → due (worked day) (deposited day (codes "A-1")) ≡ due_of day (Some 1)
unfolding deposited worked_then worked
years_before day = refl

years_after : (day : Date) → due (later day) (deposited day (codes "A-2")) ≡ due_of day None
unfolding deposited worked_then later
years_after day = refl

-- what isn't there comes before what is denied, and without a policy everything is denied
no_deposit : (day : Date) (caller : List ℕ) → refusal (worked day) day caller (Dispose 9) ≡ Some (NoSuch subjects.Deposit)
unfolding deposited worked_then worked
no_deposit day caller = refl

no_rules : (day : Date) (caller : List ℕ) → refusal (worked day) day caller (Dispose 1) ≡ Some DeniedByDefault
unfolding deposited worked_then worked
no_rules day caller = refl

-- each text once
first_places : in_first_places (codes "a" ∷ codes "b" ∷ codes "a" ∷ []) ≡ codes "a" ∷ codes "b" ∷ []
first_places = refl

-- a policy of rules that count on one day, a class that is revised, a deposit of one payload file that is kept, one that
-- is destroyed, and three holds, one of each kind
drawn : Date → History
drawn day = record {
  max_deposits = 10;
  max_holds = 20;
  changes =
      Installed (record {
        callers = record { name = codes "anna"; role = codes "archivist" } ∷ [];
        rules =
            record { effect = Deny; role = Named (codes "archivist"); action = asked.Only acts.Dispose; collection = Named (codes "tax"); class = Any; first = day; last = day }
            ∷ record { effect = Allow; role = Any; action = asked.Any; collection = Any; class = Named (codes "y1"); first = day; last = day }
            ∷ [];
      })
      ∷ DefinedClass day (codes "y1") (Some 1)
      ∷ DefinedClass day (codes "y2") None
      ∷ DefinedCollection day (codes "maps")
      ∷ Deposited day (record (deposited day (codes "A-1")) { bag = record { path = codes "data/a"; content = codes "abc" } ∷ record { path = codes "tag"; content = codes "tt" } ∷ [] })
      ∷ Deposited day (deposited day (codes "A-2"))
      ∷ PlacedHold day (record { target = OnDeposit 1; matter = codes "Case 7" })
      ∷ PlacedHold day (record { target = OnCollection (codes "maps"); matter = codes "Case 8" })
      ∷ ReleasedHold day 2
      ∷ Destroyed day 2
      ∷ DefinedClass day (codes "y1") (Some 5)
      ∷ PlacedHold day (record { target = OnClass (codes "y1"); matter = codes "Case 9" })
      ∷ [];
}

-- and its rows
drawn_rows : (day : Date) → picture (pos 1) (drawn day) ≡ record {
  office = record { id = pos 1; version = pos 1; max_deposits = pos 10; max_holds = pos 20 } ∷ [];
  callers = record { name = codes "anna"; role = codes "archivist" } ∷ [];
  rules =
      record { place = pos 1; effect = pos 0; role = codes "archivist"; action = codes "dispose"; collection = codes "tax"; class = codes "*"; first = epoch_day day; last = epoch_day day }
      ∷ record { place = pos 2; effect = pos 1; role = codes "*"; action = codes "*"; collection = codes "*"; class = codes "y1"; first = epoch_day day; last = epoch_day day }
      ∷ [];
  classes =
      record { name = codes "y1"; years = pos 5 }
      ∷ record { name = codes "y2"; years = neg_ℤ (pos 1) }
      ∷ [];
  collections = codes "maps" ∷ [];
  deposits =
      record { number = pos 1; accession = codes "A-1"; collection = codes "maps"; class = codes "y1"; closed = epoch_day day; deposited = epoch_day day; files = pos 1; bytes = pos 3; gone = None }
      ∷ record { number = pos 2; accession = codes "A-2"; collection = codes "maps"; class = codes "y1"; closed = epoch_day day; deposited = epoch_day day; files = pos 0; bytes = pos 0; gone = Some (epoch_day day) }
      ∷ [];
  dues =
      record { number = pos 1; due = due_number (due_of day (Some 5)); holds = pos 2 }
      ∷ record { number = pos 2; due = due_number (due_of day (Some 5)); holds = pos 1 }
      ∷ [];
  files =
      record { deposit = pos 1; path = codes "data/a"; content = codes "abc" }
      ∷ record { deposit = pos 1; path = codes "tag"; content = codes "tt" }
      ∷ [];
  holds =
      record { number = pos 1; deposit = Some (pos 1); collection = None; class = None; matter = codes "Case 7"; placed = epoch_day day; released = None }
      ∷ record { number = pos 2; deposit = None; collection = Some (codes "maps"); class = None; matter = codes "Case 8"; placed = epoch_day day; released = Some (epoch_day day) }
      ∷ record { number = pos 3; deposit = None; collection = None; class = Some (codes "y1"); matter = codes "Case 9"; placed = epoch_day day; released = None }
      ∷ [];
}
unfolding deposited drawn
drawn_rows day = refl
