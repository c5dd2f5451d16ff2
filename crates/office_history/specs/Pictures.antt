-- The rows that a history gives: what the tables of an office hold after its changes, and nothing else. Days are day
-- numbers, 0 for 1 January 1970, and years as numbers, -1 where a class keeps its deposits permanently.
use Rattle.std.specs.Prelude.{ℕ, ◌+◌, ℤ, pos, negsuc, neg_ℤ, List, [], ◌∷◌, length, map, Option, Some, None, option_map, codes}
use Rattle.std.specs.List.{filter_map, flat_map}
use Rattle.jiff.specs.Types.{Date}
use Rattle.jiff.specs.Words.{epoch_day}
use Rattle.bag_text.specs.TransferForm.{File}
use Rattle.bag_check.specs.Validity.{payload_files, payload_bytes}
use Rattle.office_core.specs.Actions.{action_text}
use Rattle.office_core.specs.Descriptions.{Description}
use Rattle.office_core.specs.declared.rule.Effect.{Effect}
use Rattle.office_core.specs.declared.rule.Effect.TheVariants.{Allow, Deny}
use Rattle.office_core.specs.declared.rule.Pattern.{Pattern}
use Rattle.office_core.specs.declared.rule.Pattern.TheVariants as names
use Rattle.office_core.specs.declared.rule.ActionPattern.{ActionPattern}
use Rattle.office_core.specs.declared.rule.ActionPattern.TheVariants as acts
use Rattle.office_core.specs.declared.rule.Rule.{Rule}
pub use Rattle.office_core.specs.Retention.{due_number}
use Rattle.office_core.specs.declared.caller.Caller.{Caller}
use Rattle.office_rows.specs.Rows.{OfficeRow, CallerRow, RuleRow, ClassRow, DepositRow, DueRow, FileRow, HoldRow, Tables}
use Rattle.office_history.specs.Lists.{numbers, in_first_places}
use Rattle.office_history.specs.Histories.{History, Change, DefinedClass, Deposit, Hold, Target, OnDeposit, OnCollection, OnClass, policy, years_of, deposits, deposit_numbered, destruction_day, due, live_holds, kept_numbers, holds, hold_numbered, release_day, collections}
use Rattle.office_history.specs.Stocks.{files_of}

-- ---- one row each

abbrev pub office_row : ℤ → History → OfficeRow
office_row version h = record { id = pos 1; version = version; max_deposits = pos h.max_deposits; max_holds = pos h.max_holds }

abbrev pub caller_row : Caller → CallerRow
caller_row caller = record { name = caller.name; role = caller.role }

abbrev pub effect_number : Effect → ℤ
effect_number Allow = pos 1
effect_number Deny = pos 0

abbrev pub pattern_text : Pattern → List ℕ
pattern_text names.Any = codes "*"
pattern_text (names.Named only) = only

abbrev pub action_pattern_text : ActionPattern → List ℕ
action_pattern_text acts.Any = codes "*"
action_pattern_text (acts.Only action) = action_text action

abbrev pub rule_row : ℕ → Rule → RuleRow
rule_row place rule = record {
  place = pos place;
  effect = effect_number rule.effect;
  role = pattern_text rule.role;
  action = action_pattern_text rule.action;
  collection = pattern_text rule.collection;
  class = pattern_text rule.class;
  first = epoch_day rule.first;
  last = epoch_day rule.last;
}

-- from that place on
abbrev pub rule_rows : ℕ → List Rule → List RuleRow
rule_rows place [] = []
rule_rows place (rule ∷ rules) = rule_row place rule ∷ rule_rows (place + 1) rules

abbrev pub years_number : Option ℕ → ℤ
years_number None = neg_ℤ (pos 1)
years_number (Some years) = pos years

-- and back
abbrev pub years_back : ℤ → Option ℕ
years_back (pos n) = Some n
years_back (negsuc n) = None

abbrev pub class_row : List ℕ → Option ℕ → ClassRow
class_row name years = record { name = name; years = years_number years }

-- by the day on which it was destroyed
abbrev pub row_by_gone : ℕ → Option Date → Date × Deposit → DepositRow
row_by_gone n day found = record {
  number = pos n;
  accession = found.1.description.accession;
  collection = found.1.description.collection;
  class = found.1.description.class;
  closed = epoch_day found.1.description.closed;
  deposited = epoch_day found.0;
  files = pos (payload_files found.1.bag);
  bytes = pos (payload_bytes found.1.bag);
  gone = option_map epoch_day day;
}

-- and back: the description that a row says of records closed on that day
abbrev pub description_of : DepositRow → Date → Description
description_of row closed = record { collection = row.collection; class = row.class; accession = row.accession; closed = closed }

abbrev pub deposit_row : History → ℕ → Date × Deposit → DepositRow
deposit_row h n found = row_by_gone n (destruction_day h n) found

-- the due row of a deposit: its due day, by the present years of its class, and how many live holds cover it
abbrev pub due_row : History → ℕ → Date × Deposit → DueRow
due_row h n found = record { number = pos n; due = due_number (due h found.1); holds = pos (length (live_holds h n found.1)) }

abbrev pub file_row : ℕ → File → FileRow
file_row n file = record { deposit = pos n; path = file.path; content = file.content }

abbrev pub held_deposit : Target → Option ℤ
held_deposit (OnDeposit n) = Some (pos n)
held_deposit (OnCollection name) = None
held_deposit (OnClass name) = None

abbrev pub held_collection : Target → Option (List ℕ)
held_collection (OnDeposit n) = None
held_collection (OnCollection name) = Some name
held_collection (OnClass name) = None

abbrev pub held_class : Target → Option (List ℕ)
held_class (OnDeposit n) = None
held_class (OnCollection name) = None
held_class (OnClass name) = Some name

-- by the day on which it was released
abbrev pub row_by_release : ℕ → Option Date → Date × Hold → HoldRow
row_by_release k day found = record {
  number = pos k;
  deposit = held_deposit found.1.target;
  collection = held_collection found.1.target;
  class = held_class found.1.target;
  matter = found.1.matter;
  placed = epoch_day found.0;
  released = option_map epoch_day day;
}

abbrev pub hold_row : History → ℕ → Date × Hold → HoldRow
hold_row h k found = row_by_release k (release_day h k) found

-- ---- all rows

-- the class that a change defines or revises
abbrev pub class_in : Change → Option (List ℕ)
class_in (DefinedClass day name years) = Some name
class_in _ = None

-- a class with its present years
abbrev pub row_of_class : History → List ℕ → Option ClassRow
row_of_class h name = option_map (class_row name) (years_of h name)

-- classes and collections in the order in which they were first defined, each once
abbrev pub class_rows : History → List ClassRow
class_rows h = filter_map (row_of_class h) (in_first_places (filter_map class_in h.changes))

abbrev pub collection_rows : History → List (List ℕ)
collection_rows h = in_first_places (collections h)

abbrev pub row_of_deposit : History → ℕ → Option DepositRow
row_of_deposit h n = option_map (deposit_row h n) (deposit_numbered h n)

abbrev pub deposit_rows : History → List DepositRow
deposit_rows h = filter_map (row_of_deposit h) (numbers (length (deposits h)))

abbrev pub row_of_due : History → ℕ → Option DueRow
row_of_due h n = option_map (due_row h n) (deposit_numbered h n)

-- the due row of each deposit, of destroyed ones too; a call `due_rows` on the tables shows those alone that may be destroyed
abbrev pub due_rows : History → List DueRow
due_rows h = filter_map (row_of_due h) (numbers (length (deposits h)))

-- the files of the deposits that are kept
abbrev pub file_rows : History → List FileRow
file_rows h = flat_map (λ n. map (file_row n) (files_of h n)) (kept_numbers h)

abbrev pub row_of_hold : History → ℕ → Option HoldRow
row_of_hold h k = option_map (hold_row h k) (hold_numbered h k)

abbrev pub hold_rows : History → List HoldRow
hold_rows h = filter_map (row_of_hold h) (numbers (length (holds h)))

-- what the tables of this version hold
abbrev pub picture : ℤ → History → Tables
picture version h = record {
  office = office_row version h ∷ [];
  callers = map caller_row (policy h).callers;
  rules = rule_rows 1 (policy h).rules;
  classes = class_rows h;
  collections = collection_rows h;
  deposits = deposit_rows h;
  dues = due_rows h;
  files = file_rows h;
  holds = hold_rows h;
}
