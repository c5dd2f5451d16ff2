-- The rule that decides, by the rows of the rules. An absent name is the empty text, which no rule has.
use Rattle.std.specs.Prelude.{ℕ, ℤ, Bool, ◌&&◌, ◌||◌, List, Option, find, codes, bytes_eq}
use Rattle.std.specs.Ordering.{int_cmp, is_le, is_ge}
use Rattle.office_rows.specs.Rows.{RuleRow}

-- `*` fits every name, an absent one too, and a name itself
abbrev pub fits_name : List ℕ → List ℕ → Bool
fits_name text name = bytes_eq text (codes "*") || bytes_eq text name

-- the day is not before the first, and not after the last
abbrev pub counts_on : ℤ → RuleRow → Bool
counts_on day r = is_le (int_cmp r.first day) && is_ge (int_cmp r.last day)

-- what a caller of this role attempts: the action on the collection and the class, on that day
pub record Attempt : Type 0 where
  pub role : List ℕ
  pub action : List ℕ
  pub collection : List ℕ
  pub class : List ℕ
  pub day : ℤ

-- each name of the rule fits, and the rule counts on the day
abbrev pub fits_attempt : Attempt → RuleRow → Bool
fits_attempt a r =
    fits_name r.role a.role && (fits_name r.action a.action && (fits_name r.collection a.collection && (fits_name r.class a.class && counts_on a.day r)))

-- of rules that ascend by place: the one of the least place that fits
abbrev pub matching_rule : List ℕ → List ℕ → List ℕ → List ℕ → ℤ → List RuleRow → Option RuleRow
matching_rule role action collection class day =
    find (fits_attempt (record { role = role; action = action; collection = collection; class = class; day = day }))
