-- A statement on another table leaves the contents as they are, and which of them each file has, whatever its parameters.
use Rattle.office_tables.proofs.FirstLemmas.{ℕ, [], ◌∷◌, Ok, refl, Row, col, lit, State, Executes, scan, as_program, by_number, by_text, inserts, updates, deletes, office_schema, caller_table, rule_5_table, collection_table, deposit_place, deposit_table, hold_4_table, caller_tree, deposit_tree, hold_tree, rule_tree, IsOffice, HasSameContents, idle, same_contents, drop_callers_text, drop_rules_text, add_caller_text, add_rule_text, rule_terms, policy_meanings, add_collection_text, class_meanings, all_given, deposit_with, Null}
use Rattle.office_tables.proofs.DepositTexts as deposits
use Rattle.office_tables.proofs.DueTexts as dues
use Rattle.office_tables.proofs.HoldTexts as holds

pub drop_callers_same : (params : Row) (old new : State) (count : ℕ) → IsOffice old.now → Executes drop_callers_text params old new (Ok count) → HasSameContents old.now new.now
drop_callers_same params old new count office h = same_contents old new _ count _ (deletes drop_callers_text params old new office_schema office.whole.schema_is 1 caller_table refl idle (as_program (scan caller_tree [] (col 1 0 ∷ []) [])) policy_meanings.drop_callers_means count h).2 refl refl

pub drop_rules_same : (params : Row) (old new : State) (count : ℕ) → IsOffice old.now → Executes drop_rules_text params old new (Ok count) → HasSameContents old.now new.now
drop_rules_same params old new count office h = same_contents old new _ count _ (deletes drop_rules_text params old new office_schema office.whole.schema_is 10 rule_5_table refl idle (as_program (scan rule_tree [] (col 1 0 ∷ []) [])) policy_meanings.drop_rules_means count h).2 refl refl

pub add_caller_same : (params : Row) (old new : State) (count : ℕ) → IsOffice old.now → Executes add_caller_text params old new (Ok count) → HasSameContents old.now new.now
add_caller_same params old new count office h = same_contents old new _ count _ (inserts add_caller_text params old new office_schema office.whole.schema_is 1 caller_table refl idle (all_given 2) 3 policy_meanings.add_caller_means refl refl count h) refl refl

pub add_rule_same : (params : Row) (old new : State) (count : ℕ) → IsOffice old.now → Executes add_rule_text params old new (Ok count) → HasSameContents old.now new.now
add_rule_same params old new count office h = same_contents old new _ count _ (inserts add_rule_text params old new office_schema office.whole.schema_is 10 rule_5_table refl idle rule_terms 9 policy_meanings.add_rule_means refl refl count h) refl refl

pub add_collection_same : (params : Row) (old new : State) (count : ℕ) → IsOffice old.now → Executes add_collection_text params old new (Ok count) → HasSameContents old.now new.now
add_collection_same params old new count office h = same_contents old new _ count _ (inserts add_collection_text params old new office_schema office.whole.schema_is 4 collection_table refl idle (all_given 1) 2 class_meanings.add_collection_means refl refl count h) refl refl

pub add_deposit_same : (params : Row) (old new : State) (count : ℕ) → IsOffice old.now → Executes deposits.put_text params old new (Ok count) → HasSameContents old.now new.now
add_deposit_same params old new count office h = same_contents old new _ count _ (inserts deposits.put_text params old new office_schema office.whole.schema_is deposit_place deposit_table refl idle deposits.put_terms deposits.put_width deposits.deposit_meanings.put_means refl refl count h) refl refl

pub mark_gone_same : (params : Row) (old new : State) (count : ℕ) → IsOffice old.now → Executes deposits.gone_text params old new (Ok count) → HasSameContents old.now new.now
mark_gone_same params old new count office h = same_contents old new _ count _ (updates deposits.gone_text params old new office_schema office.whole.schema_is deposit_place deposit_table refl idle (as_program (scan deposit_tree by_number (deposit_with 9 (col 0 1)) [])) deposits.deposit_meanings.gone_means count h).2 refl refl

pub set_day_same : (params : Row) (old new : State) (count : ℕ) → IsOffice old.now → Executes dues.set_due_text params old new (Ok count) → HasSameContents old.now new.now
set_day_same params old new count office h = same_contents old new _ count _ (updates dues.set_due_text params old new office_schema office.whole.schema_is deposit_place deposit_table refl idle (as_program (scan deposit_tree by_number (deposit_with 10 (col 0 1)) [])) dues.due_meanings.set_due_means count h).2 refl refl

pub clear_day_same : (params : Row) (old new : State) (count : ℕ) → IsOffice old.now → Executes dues.clear_due_text params old new (Ok count) → HasSameContents old.now new.now
clear_day_same params old new count office h = same_contents old new _ count _ (updates dues.clear_due_text params old new office_schema office.whole.schema_is deposit_place deposit_table refl idle (as_program (scan deposit_tree by_number (deposit_with 10 (lit Null)) [])) dues.due_meanings.clear_due_means count h).2 refl refl

pub set_days_same : (params : Row) (old new : State) (count : ℕ) → IsOffice old.now → Executes dues.set_dues_text params old new (Ok count) → HasSameContents old.now new.now
set_days_same params old new count office h = same_contents old new _ count _ (updates dues.set_dues_text params old new office_schema office.whole.schema_is deposit_place deposit_table refl idle (as_program (scan deposit_tree dues.by_numbers (deposit_with 10 (col 0 2)) [])) dues.due_meanings.set_dues_means count h).2 refl refl

pub clear_days_same : (params : Row) (old new : State) (count : ℕ) → IsOffice old.now → Executes dues.clear_dues_text params old new (Ok count) → HasSameContents old.now new.now
clear_days_same params old new count office h = same_contents old new _ count _ (updates dues.clear_dues_text params old new office_schema office.whole.schema_is deposit_place deposit_table refl idle (as_program (scan deposit_tree dues.by_numbers (deposit_with 10 (lit Null)) [])) dues.due_meanings.clear_dues_means count h).2 refl refl

pub set_holds_same : (params : Row) (old new : State) (count : ℕ) → IsOffice old.now → Executes dues.set_holds_text params old new (Ok count) → HasSameContents old.now new.now
set_holds_same params old new count office h = same_contents old new _ count _ (updates dues.set_holds_text params old new office_schema office.whole.schema_is deposit_place deposit_table refl idle (as_program (scan deposit_tree by_number (deposit_with 11 (col 0 1)) [])) dues.due_meanings.set_holds_means count h).2 refl refl

pub add_holds_same : (params : Row) (old new : State) (count : ℕ) → IsOffice old.now → Executes dues.add_holds_text params old new (Ok count) → HasSameContents old.now new.now
add_holds_same params old new count office h = same_contents old new _ count _ (updates dues.add_holds_text params old new office_schema office.whole.schema_is deposit_place deposit_table refl idle (as_program (scan deposit_tree (by_text 3) dues.more_columns [])) dues.due_meanings.add_holds_means count h).2 refl refl

pub add_holds_class_same : (params : Row) (old new : State) (count : ℕ) → IsOffice old.now → Executes dues.add_holds_class_text params old new (Ok count) → HasSameContents old.now new.now
add_holds_class_same params old new count office h = same_contents old new _ count _ (updates dues.add_holds_class_text params old new office_schema office.whole.schema_is deposit_place deposit_table refl idle (as_program (scan deposit_tree (by_text 4) dues.more_columns [])) dues.due_meanings.add_holds_class_means count h).2 refl refl

pub add_hold_same : (params : Row) (old new : State) (count : ℕ) → IsOffice old.now → Executes holds.put_text params old new (Ok count) → HasSameContents old.now new.now
add_hold_same params old new count office h = same_contents old new _ count _ (inserts holds.put_text params old new office_schema office.whole.schema_is 9 hold_4_table refl idle holds.hold_terms 8 holds.hold_meanings.put_means refl refl count h) refl refl

pub end_hold_same : (params : Row) (old new : State) (count : ℕ) → IsOffice old.now → Executes holds.end_text params old new (Ok count) → HasSameContents old.now new.now
end_hold_same params old new count office h = same_contents old new _ count _ (updates holds.end_text params old new office_schema office.whole.schema_is 9 hold_4_table refl idle (as_program (scan hold_tree by_number holds.ended_columns [])) holds.hold_meanings.end_means count h).2 refl refl
