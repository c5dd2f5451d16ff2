-- The rows that queries on rules show.
use Rattle.sqlite.specs.Order.{Row}
use Rattle.office_rows.specs.Rows.{RuleRow}
use Rattle.office_contents.specs.Stored.{rule_at}

abbrev pub shown_rule : Row → RuleRow
shown_rule row = rule_at 0 row
