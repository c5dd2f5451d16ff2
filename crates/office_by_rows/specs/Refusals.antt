-- Which requests are refused, and why, by the rows of an office: for each request the refusals that it may meet, in their order, each as the
-- rows tell it. The first that applies is answered. A disposal reads all that it may need before it judges.
use Rattle.std.specs.Prelude.{ℕ, ◌+◌, ℤ, pos, not, nat_le, ◌++◌, List, [], ◌∷◌, Option, Some, None, is_none, is_some, option_map, unwrap_or, if◌then◌else◌}
use Rattle.jiff.specs.Types.{Date}
use Rattle.office_core.specs.Descriptions.{Description}
use Rattle.office_core.specs.FirstOf.{◌>>=◌, answer_if}
use Rattle.office_core.specs.Verdicts.{verdict_of}
use Rattle.office_core.specs.declared.action.Action.{Action}
use Rattle.office_core.specs.declared.action.Action.TheVariants as acts
use Rattle.office_core.specs.declared.facts.Facts.{Facts}
use Rattle.office_core.specs.declared.refusal.Refusal.{Refusal}
use Rattle.office_core.specs.declared.refusal.Refusal.TheVariants.{Full, Gone, NoSuch, Released, Taken}
use Rattle.office_core.specs.declared.refusal.Subject.TheVariants as subjects
use Rattle.office_core.specs.declared.request.Request.{Request}
use Rattle.office_core.specs.declared.request.Request.TheVariants.{DefineClass, DefineCollection, Deposit, List as ListDeposits, Record, Holds, DownloadBag, DownloadFile, Audit, HoldDeposit, HoldCollection, HoldClass, Release, Dispose, DueList}
use Rattle.office_rows.specs.Rows.{DepositRow, HoldRow, Tables, deposit_by, deposit_numbered, due_numbered, class_named, has_collection, hold_numbered, last_number, limits_of}
use Rattle.office_history.specs.Histories.{Target, OnDeposit, OnCollection, OnClass}
use Rattle.office_history.specs.Refusals.{bad_bag, closed_ahead_refusal, refusal_of}
use Rattle.office_by_rows.specs.Values.{count_of, day_numbered, due_of_number, if_any}
use Rattle.office_by_rows.specs.Asking.{Visit, counted_hold_in, days_of, decision_for, denial_in, hold_by, role_in, target_of}

-- ---- one refusal each

-- E1
abbrev pub no_such_collection : Tables → List ℕ → Option Refusal
no_such_collection t name = answer_if (not (has_collection name t)) (NoSuch subjects.Collection)

abbrev pub no_such_class : Tables → List ℕ → Option Refusal
no_such_class t name = answer_if (is_none (class_named name t.classes)) (NoSuch subjects.Class)

-- E2, asked of a deposit: of its collection and its class
abbrev pub denial_at : Tables → Visit → Action → DepositRow → Option (Option Refusal)
denial_at t visit action row = denial_in t visit action (Some row.collection) (Some row.class)

-- E3: the deposit was destroyed
abbrev pub gone_refusal : DepositRow → Option (Option Refusal)
gone_refusal row = do
  days ← days_of row
  Some (option_map Gone days.gone)

-- E4: a deposit, kept or destroyed, has the accession
abbrev pub taken_refusal : Tables → List ℕ → Option (Option Refusal)
taken_refusal t accession = do
  number ← if_any count_of (option_map (λ (row : DepositRow). row.number) (deposit_by accession t.deposits))
  Some (option_map Taken number)

-- E9: the hold was released. Its row is told as a whole, so that no hold is released that isn't one.
abbrev pub released_refusal : HoldRow → Option (Option Refusal)
released_refusal row = do
  told ← hold_by row
  day ← if_any day_numbered row.released
  Some (option_map Released day)

-- the number after the highest
abbrev pub number_after : Option ℤ → Option ℕ
number_after highest = do
  last ← if_any count_of highest
  Some (unwrap_or last 0 + 1)

-- E10: the number after the highest is above the limit
abbrev pub full_after : ℤ → Option ℤ → Option (Option Refusal)
full_after limit highest = do
  most ← count_of limit
  last ← if_any count_of highest
  Some (answer_if (nat_le most (unwrap_or last 0)) Full)

abbrev pub highest_deposit : Tables → Option ℤ
highest_deposit t = last_number (λ (row : DepositRow). row.number) t.deposits

abbrev pub highest_hold : Tables → Option ℤ
highest_hold t = last_number (λ (row : HoldRow). row.number) t.holds

abbrev pub full_of_deposits : Tables → Option (Option Refusal)
full_of_deposits t = do
  limits ← limits_of t
  full_after limits.max_deposits (highest_deposit t)

abbrev pub full_of_holds : Tables → Option (Option Refusal)
full_of_holds t = do
  limits ← limits_of t
  full_after limits.max_holds (highest_hold t)

-- ---- a release, which is asked of what the hold names: that has to be there

abbrev pub release_denial_at : Tables → Visit → Option DepositRow → Option (Option Refusal)
release_denial_at t visit None = None
release_denial_at t visit (Some row) = denial_at t visit acts.Release row

abbrev pub release_denial_on : Tables → Visit → Target → Option (Option Refusal)
release_denial_on t visit (OnDeposit n) = release_denial_at t visit (deposit_numbered (pos n) t.deposits)
release_denial_on t visit (OnCollection name) = if has_collection name t then denial_in t visit acts.Release (Some name) None else None
release_denial_on t visit (OnClass name) = if is_some (class_named name t.classes) then denial_in t visit acts.Release None (Some name) else None

abbrev pub release_denial : Tables → Visit → HoldRow → Option (Option Refusal)
release_denial t visit row = do
  target ← target_of row
  release_denial_on t visit target

-- ---- a disposal

-- what is known of the disposal of the deposit with that row on that day, for a caller of that role
abbrev pub disposal_facts : Tables → List ℕ → Date → ℕ → DepositRow → Option Facts
disposal_facts t role day n row = do
  days ← days_of row
  decision ← decision_for t role day acts.Dispose (Some row.collection) (Some row.class)
  due_row ← due_numbered (pos n) t.dues
  due ← due_of_number due_row.due
  hold ← counted_hold_in t due_row.holds n row.collection row.class
  Some (record { action = acts.Dispose; decision = decision; gone = days.gone; hold = hold; due = due })

-- E2, E3, E7 and E8, by these facts
abbrev pub disposal_refusal : Tables → Visit → ℕ → DepositRow → Option (Option Refusal)
disposal_refusal t visit n row = do
  role ← role_in t visit.caller
  facts ← disposal_facts t role visit.day n row
  Some (refusal_of (verdict_of facts visit.day))

-- ---- in their order

-- the first of these that applies, where each before it is told
abbrev pub first_told : List (Option (Option Refusal)) → Option (Option Refusal)
first_told [] = Some None
first_told (None ∷ more) = None
first_told (Some (Some why) ∷ more) = Some (Some why)
first_told (Some None ∷ more) = first_told more

-- E1 where there is no such deposit, and else these of its row
abbrev pub of_deposit : Option DepositRow → (DepositRow → List (Option (Option Refusal))) → List (Option (Option Refusal))
of_deposit None these = Some (Some (NoSuch subjects.Deposit)) ∷ []
of_deposit (Some row) these = these row

-- E1 where there is no such hold, and else these of its row
abbrev pub of_hold : Option HoldRow → (HoldRow → List (Option (Option Refusal))) → List (Option (Option Refusal))
of_hold None these = Some (Some (NoSuch subjects.Hold)) ∷ []
of_hold (Some row) these = these row

-- what is asked of a deposit that is there: E2 and E3
abbrev pub kept_refusals : Tables → Visit → Action → DepositRow → List (Option (Option Refusal))
kept_refusals t visit action row = denial_at t visit action row ∷ gone_refusal row ∷ []

-- the first of these that applies to a deposit, or E1 where there is no such deposit
abbrev pub kept_refusal : Tables → Visit → Action → ℕ → Option (Option Refusal)
kept_refusal t visit action n = first_told (of_deposit (deposit_numbered (pos n) t.deposits) (kept_refusals t visit action))

-- ---- a hold

-- a hold of what is named, while the office takes one more: E1 and E2, and of a deposit E3
abbrev pub hold_denials : Tables → Visit → Target → List (Option (Option Refusal))
hold_denials t visit (OnDeposit n) = of_deposit (deposit_numbered (pos n) t.deposits) (kept_refusals t visit acts.Hold)
hold_denials t visit (OnCollection name) = Some (no_such_collection t name) ∷ denial_in t visit acts.Hold (Some name) None ∷ []
hold_denials t visit (OnClass name) = Some (no_such_class t name) ∷ denial_in t visit acts.Hold None (Some name) ∷ []

-- and E10
abbrev pub hold_refusals : Tables → Visit → Target → List (Option (Option Refusal))
hold_refusals t visit target = hold_denials t visit target ++ full_of_holds t ∷ []

-- ---- a deposit

-- where a bag is deposited: E1 and E2
abbrev pub filing_refusals : Tables → Visit → Description → List (Option (Option Refusal))
filing_refusals t visit description =
    Some (no_such_collection t description.collection)
    ∷ Some (no_such_class t description.class)
    ∷ denial_in t visit acts.Deposit (Some description.collection) (Some description.class)
    ∷ []

-- and E4 and E5: what is asked before the bag is looked at
abbrev pub refusals_before_the_bag : Tables → Visit → Description → List (Option (Option Refusal))
refusals_before_the_bag t visit description =
    filing_refusals t visit description ++ taken_refusal t description.accession ∷ Some (closed_ahead_refusal visit.day description.closed) ∷ []

-- E6 and E10
abbrev pub refusals_of_the_bag : Tables → List ℕ → List (Option (Option Refusal))
refusals_of_the_bag t bag = Some (bad_bag bag) ∷ full_of_deposits t ∷ []

-- ---- all of them

-- all refusals of a request
abbrev pub refusals : Tables → Visit → Request → List (Option (Option Refusal))
refusals t visit (DefineClass name years) = denial_in t visit acts.Class None (Some name) ∷ []
refusals t visit (DefineCollection name) = denial_in t visit acts.Collection (Some name) None ∷ []
refusals t visit (Deposit description bag) = refusals_before_the_bag t visit description ++ refusals_of_the_bag t bag.now
refusals t visit (ListDeposits collection class) = []
refusals t visit (Record n) = of_deposit (deposit_numbered (pos n) t.deposits) (kept_refusals t visit acts.Record)
refusals t visit (Holds n) = of_deposit (deposit_numbered (pos n) t.deposits) (kept_refusals t visit acts.Holds)
refusals t visit (DownloadBag n) = of_deposit (deposit_numbered (pos n) t.deposits) (kept_refusals t visit acts.Download)
refusals t visit (DownloadFile n path) = of_deposit (deposit_numbered (pos n) t.deposits) (kept_refusals t visit acts.Download)
refusals t visit (Audit n) = of_deposit (deposit_numbered (pos n) t.deposits) (kept_refusals t visit acts.Audit)
refusals t visit (HoldDeposit n matter) = hold_refusals t visit (OnDeposit n)
refusals t visit (HoldCollection name matter) = hold_refusals t visit (OnCollection name)
refusals t visit (HoldClass name matter) = hold_refusals t visit (OnClass name)
refusals t visit (Release k) = of_hold (hold_numbered (pos k) t.holds) (λ row. release_denial t visit row ∷ released_refusal row ∷ [])
refusals t visit (Dispose n) = of_deposit (deposit_numbered (pos n) t.deposits) (λ row. disposal_refusal t visit n row ∷ [])
refusals t visit DueList = []

-- the first refusal that applies, or none where the request is allowed
abbrev pub refusal : Tables → Visit → Request → Option (Option Refusal)
refusal t visit request = first_told (refusals t visit request)
