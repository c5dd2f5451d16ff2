-- The rows of the office's tables as plain records, what is looked up in them, and how they change. Nothing here speaks of SQL.
-- Texts are lists of bytes. Days are day numbers, 0 for 1970-01-01. Sizes are in bytes, years are calendar years.
use Rattle.std.specs.Prelude.{⊤, ℕ, ℤ, pos, negsuc, nat_le, List, [], ◌∷◌, ◌++◌, map, find, filter, Option, Some, None, bytes_eq, not, is_some, unwrap_or, option_map, ◌≡◌, ◌≢◌, ◌&&◌, ◌||◌, Bool, false, true, if◌then◌else◌, fold, length, ◌+ℤ◌}
use Rattle.std.specs.List.{AllByRecursion, list_any}
use Rattle.std.specs.Ordering.{int_eq, int_cmp, is_lt, is_le, is_ge}
use Rattle.std.specs.declared.cmp.Ordering.TheVariants.{Less}

-- ---- the rows

-- the office itself; an office has one such row, with the id 1
pub record OfficeRow : Type 0 where
  pub id : ℤ
  -- which tables these are
  pub version : ℤ
  -- how many deposits and holds the office may have at most
  pub max_deposits : ℤ
  pub max_holds : ℤ

pub record CallerRow : Type 0 where
  pub name : List ℕ
  pub role : List ℕ

pub record RuleRow : Type 0 where
  -- from 1
  pub place : ℤ
  -- 1 allows, 0 denies
  pub effect : ℤ
  pub role : List ℕ
  pub action : List ℕ
  pub collection : List ℕ
  pub class : List ℕ
  -- the days, both included, between which the rule counts
  pub first : ℤ
  pub last : ℤ

pub record ClassRow : Type 0 where
  pub name : List ℕ
  -- -1 where deposits of the class are kept permanently
  pub years : ℤ

pub record DepositRow : Type 0 where
  pub number : ℤ
  pub accession : List ℕ
  pub collection : List ℕ
  pub class : List ℕ
  -- the day when the records were closed, and the day of the deposit
  pub closed : ℤ
  pub deposited : ℤ
  -- the files of the payload and their bytes
  pub files : ℤ
  pub bytes : ℤ
  -- the day when it was destroyed
  pub gone : Option ℤ

pub record FileRow : Type 0 where
  -- the number of its deposit
  pub deposit : ℤ
  pub path : List ℕ
  pub content : List ℕ

-- A content that is stored, under a number of its own.
pub record ContentRow : Type 0 where
  pub id : ℤ
  -- what tells it apart at a glance
  pub mark : List ℕ
  -- how many bytes it has
  pub size : ℤ
  pub bytes : List ℕ

-- What the office keeps of a deposit beside its row: when it falls due, and how many live holds cover it.
pub record DueRow : Type 0 where
  pub number : ℤ
  -- nothing where it is kept permanently
  pub due : Option ℤ
  pub holds : ℤ

pub record HoldRow : Type 0 where
  pub number : ℤ
  -- what is held: the deposit of that number, or each of the collection, or each of the class
  pub deposit : Option ℤ
  pub collection : Option (List ℕ)
  pub class : Option (List ℕ)
  pub matter : List ℕ
  -- the day when it was placed, and the day when it was released
  pub placed : ℤ
  pub released : Option ℤ

-- All rows: rules ascending by place, deposits, dues and holds ascending by number, the others as they were first put.
pub record Tables : Type 0 where
  pub office : List OfficeRow
  pub callers : List CallerRow
  pub rules : List RuleRow
  pub classes : List ClassRow
  pub collections : List (List ℕ)
  pub deposits : List DepositRow
  pub dues : List DueRow
  pub files : List FileRow
  pub holds : List HoldRow

-- ---- rows in the order of their numbers

-- the rows with this one in its place by number: after those before it that are lower
abbrev pub put_by : {Row : Type 0} → (Row → ℤ) → Row → List Row → List Row
put_by number x [] = x ∷ []
put_by number x (r ∷ rs) = if is_lt (int_cmp (number r) (number x)) then r ∷ put_by number x rs else x ∷ r ∷ rs

-- the rows with each of these in its place by number, one after another
abbrev pub put_each_by : {Row : Type 0} → (Row → ℤ) → List Row → List Row → List Row
put_each_by number [] rows = rows
put_each_by number (x ∷ xs) rows = put_each_by number xs (put_by number x rows)

-- these sorted by number
abbrev pub sorted_by : {Row : Type 0} → (Row → ℤ) → List Row → List Row
sorted_by number xs = put_each_by number xs []

-- each row's number is lower than those of all rows after it
abbrev pub NumbersRise : {Row : Type 0} → (Row → ℤ) → List Row → Type 0
NumbersRise number [] = ⊤
NumbersRise number (r ∷ rs) = AllByRecursion (λ s. int_cmp (number r) (number s) ≡ Less) rs × NumbersRise number rs

-- no two rows have one number
abbrev pub NumbersDiffer : {Row : Type 0} → (Row → ℤ) → List Row → Type 0
NumbersDiffer number [] = ⊤
NumbersDiffer number (r ∷ rs) = AllByRecursion (λ s. number r ≢ number s) rs × NumbersDiffer number rs

-- each number that is there is lower than n
abbrev pub NumbersBelow : {Row : Type 0} → (Row → ℤ) → ℤ → List Row → Type 0
NumbersBelow number n = AllByRecursion (λ r. int_cmp (number r) n ≡ Less)

-- the highest number of a list whose numbers rise
abbrev pub last_number : {Row : Type 0} → (Row → ℤ) → List Row → Option ℤ
last_number number [] = None
last_number number (r ∷ rs) = Some (unwrap_or (last_number number rs) (number r))

-- ---- the office

abbrev pub is_office_row : OfficeRow → Bool
is_office_row o = int_eq o.id (pos 1)

abbrev pub row_of_office : Tables → Option OfficeRow
row_of_office t = find is_office_row t.office

-- how many deposits and holds an office may have at most
pub record Limits : Type 0 where
  pub max_deposits : ℤ
  pub max_holds : ℤ

abbrev pub limits_in : OfficeRow → Limits
limits_in o = record { max_deposits = o.max_deposits; max_holds = o.max_holds }

abbrev pub limits_of : Tables → Option Limits
limits_of t = option_map limits_in (row_of_office t)

-- the deposits, and the holds, that an office may be told to accept: the greatest limit
abbrev pub max_limit : ℕ
max_limit = 1_000_000

-- a limit is from 1 to the greatest
abbrev pub is_limit : ℤ → Bool
is_limit (pos n) = nat_le 1 n && nat_le n max_limit
is_limit (negsuc n) = false

abbrev pub IsLimit : ℤ → Type 0
IsLimit n = is_limit n ≡ true

-- the version of these tables
abbrev pub this_version : ℤ
this_version = pos 5

-- the row by which an office is known: it has the id 1, and limits in range
abbrev pub is_known : OfficeRow → Bool
is_known o = is_office_row o && (is_limit o.max_deposits && is_limit o.max_holds)

-- the version that this row tells, if there is one
abbrev pub version_of : Tables → Option ℤ
version_of t = option_map (λ o. o.version) (find is_known t.office)

-- the tables of an office that holds nothing yet
abbrev pub empty_office : ℤ → ℤ → ℤ → Tables
empty_office version max_deposits max_holds = record {
  office = record { id = pos 1; version = version; max_deposits = max_deposits; max_holds = max_holds } ∷ [];
  callers = [];
  rules = [];
  classes = [];
  collections = [];
  deposits = [];
  dues = [];
  files = [];
  holds = [];
}

-- ---- callers and rules

abbrev pub is_caller : List ℕ → CallerRow → Bool
is_caller name c = bytes_eq c.name name

abbrev pub caller_named : List ℕ → List CallerRow → Option CallerRow
caller_named name = find (is_caller name)

-- the rules ascend by place
abbrev pub PlacesRise : List RuleRow → Type 0
PlacesRise = NumbersRise (λ r. r.place)

-- these callers, and these rules sorted by place; and none of those before
abbrev pub with_policy : List CallerRow → List RuleRow → Tables → Tables
with_policy callers rules t = record t { callers = callers; rules = sorted_by (λ r. r.place) rules }

-- ---- classes and collections

abbrev pub is_class : List ℕ → ClassRow → Bool
is_class name c = bytes_eq c.name name

abbrev pub class_named : List ℕ → List ClassRow → Option ClassRow
class_named name = find (is_class name)

abbrev pub has_class : List ℕ → Tables → Bool
has_class name t = list_any (is_class name) t.classes

abbrev pub with_years : List ℕ → ℤ → Tables → Tables
with_years name years t = record t { classes = map (λ c. if is_class name c then record c { years = years } else c) t.classes }

abbrev pub with_new_class : List ℕ → ℤ → Tables → Tables
with_new_class name years t = record t { classes = t.classes ++ record { name = name; years = years } ∷ [] }

-- the class of that name has these years now; where there is none of that name, it comes at the end
abbrev pub with_class : List ℕ → ℤ → Tables → Tables
with_class name years t = if has_class name t then with_years name years t else with_new_class name years t

abbrev pub is_collection : List ℕ → List ℕ → Bool
is_collection name c = bytes_eq c name

abbrev pub has_collection : List ℕ → Tables → Bool
has_collection name t = list_any (is_collection name) t.collections

abbrev pub with_new_collection : List ℕ → Tables → Tables
with_new_collection name t = record t { collections = t.collections ++ name ∷ [] }

-- as it was where the collection is there; else the collection comes at the end
abbrev pub with_collection : List ℕ → Tables → Tables
with_collection name t = if has_collection name t then t else with_new_collection name t

-- ---- deposits

abbrev pub is_deposit : ℤ → DepositRow → Bool
is_deposit n d = int_eq d.number n

abbrev pub deposit_numbered : ℤ → List DepositRow → Option DepositRow
deposit_numbered n = find (is_deposit n)

abbrev pub has_accession : List ℕ → DepositRow → Bool
has_accession accession d = bytes_eq d.accession accession

abbrev pub deposit_by : List ℕ → List DepositRow → Option DepositRow
deposit_by accession = find (has_accession accession)

-- the due row of the deposit of that number
abbrev pub new_due_row : ℤ → Option ℤ → ℤ → DueRow
new_due_row n due holds = record { number = n; due = due; holds = holds }

-- the deposit is in its place by number; it falls due on that day or never, and this number of live holds covers it
abbrev pub with_deposit_and_due : DepositRow → Option ℤ → ℤ → Tables → Tables
with_deposit_and_due d due holds t = record t { deposits = put_by (λ e. e.number) d t.deposits; dues = put_by (λ e. e.number) (new_due_row d.number due holds) t.dues }

-- the same of a deposit with no day and no hold
abbrev pub with_deposit : DepositRow → Tables → Tables
with_deposit d = with_deposit_and_due d None (pos 0)

-- the deposit was destroyed on that day
abbrev pub with_gone : ℤ → ℤ → Tables → Tables
with_gone n day t = record t { deposits = map (λ d. if is_deposit n d then record d { gone = Some day } else d) t.deposits }

-- ---- the due rows of deposits

abbrev pub is_due_of : ℤ → DueRow → Bool
is_due_of n d = int_eq d.number n

abbrev pub due_numbered : ℤ → List DueRow → Option DueRow
due_numbered n = find (is_due_of n)

-- the deposit falls due on that day, or never
abbrev pub with_due : ℤ → Option ℤ → Tables → Tables
with_due n due t = record t { dues = map (λ d. if is_due_of n d then record d { due = due } else d) t.dues }

abbrev pub is_due_between : ℤ → ℤ → DueRow → Bool
is_due_between first last d = is_ge (int_cmp d.number first) && is_le (int_cmp d.number last)

-- each deposit from the first number to the last, both included, falls due on that day, or never
abbrev pub with_dues : ℤ → ℤ → Option ℤ → Tables → Tables
with_dues first last due t = record t { dues = map (λ d. if is_due_between first last d then record d { due = due } else d) t.dues }

-- this number of live holds covers the deposit
abbrev pub with_holds : ℤ → ℤ → Tables → Tables
with_holds n holds t = record t { dues = map (λ d. if is_due_of n d then record d { holds = holds } else d) t.dues }

-- the rows of deposits, each beside its due row
abbrev pub beside : List DepositRow → List DueRow → List (DepositRow × DueRow)
beside [] dues = []
beside (d ∷ ds) [] = []
beside (d ∷ ds) (k ∷ ks) = (d, k) ∷ beside ds ks

-- each deposit that passes has this number of live holds more
abbrev pub more_holds : (DepositRow → Bool) → ℤ → List DepositRow → List DueRow → List DueRow
more_holds those by ds ks = map (λ p. if those p.0 then record p.1 { holds = p.1.holds +ℤ by } else p.1) (beside ds ks)

abbrev pub is_within : List ℕ → DepositRow → Bool
is_within collection d = bytes_eq d.collection collection

abbrev pub is_of_class : List ℕ → DepositRow → Bool
is_of_class class d = bytes_eq d.class class

-- as many more live holds cover each deposit of the collection
abbrev pub with_more_holds : List ℕ → ℤ → Tables → Tables
with_more_holds collection by t = record t { dues = more_holds (is_within collection) by t.deposits t.dues }

-- as many more live holds cover each deposit of the class
abbrev pub with_more_holds_class : List ℕ → ℤ → Tables → Tables
with_more_holds_class class by t = record t { dues = more_holds (is_of_class class) by t.deposits t.dues }

-- the deposits of the class
abbrev pub of_class : List ℕ → Tables → List DepositRow
of_class class t = filter (is_of_class class) t.deposits

-- the least number that 64 bits hold
abbrev pub least_number : ℤ
least_number = negsuc 9_223_372_036_854_775_807

-- that day or an earlier one; a deposit that is kept permanently has none
abbrev pub is_by : ℤ → Option ℤ → Bool
is_by day None = false
is_by day (Some due) = is_ge (int_cmp due least_number) && is_le (int_cmp due day)

-- it is kept, no live hold covers it, and it has fallen due
abbrev pub is_disposable : ℤ → DepositRow × DueRow → Bool
is_disposable day p = not (is_some p.0.gone) && (int_eq p.1.holds (pos 0) && is_by day p.1.due)

-- ---- files

abbrev pub is_file_of : ℤ → FileRow → Bool
is_file_of n f = int_eq f.deposit n

abbrev pub files_of : ℤ → Tables → List FileRow
files_of n t = filter (is_file_of n) t.files

abbrev pub is_file_at : ℤ → List ℕ → FileRow → Bool
is_file_at n path f = is_file_of n f && bytes_eq f.path path

abbrev pub file_at : ℤ → List ℕ → List FileRow → Option FileRow
file_at n path = find (is_file_at n path)

abbrev pub with_file : FileRow → Tables → Tables
with_file f t = record t { files = t.files ++ f ∷ [] }

abbrev pub without_files : ℤ → Tables → Tables
without_files n t = record t { files = filter (λ f. not (is_file_of n f)) t.files }

-- ---- contents

abbrev pub is_content : ℤ → ContentRow → Bool
is_content id c = int_eq c.id id

abbrev pub content_numbered : ℤ → List ContentRow → Option ContentRow
content_numbered id = find (is_content id)

-- the bytes under that number, none where there is no such content
abbrev pub bytes_under : List ContentRow → ℤ → List ℕ
bytes_under contents id = unwrap_or (option_map (λ c. c.bytes) (content_numbered id contents)) []

-- it has this mark and these bytes
abbrev pub is_alike : List ℕ → List ℕ → ContentRow → Bool
is_alike mark bytes c = bytes_eq c.mark mark && bytes_eq c.bytes bytes

-- the number that a content gets which comes after these
abbrev pub next_id : List ContentRow → ℤ
next_id = fold (λ _ c. c.id +ℤ pos 1) (pos 1)

-- one content more, unless one with this mark and these bytes is there
abbrev pub with_content : List ℕ → List ℕ → List ContentRow → List ContentRow
with_content mark bytes contents =
    if list_any (is_alike mark bytes) contents then contents
    else contents ++ record { id = next_id contents; mark = mark; size = pos (length bytes); bytes = bytes } ∷ []

-- ---- holds

abbrev pub is_hold : ℤ → HoldRow → Bool
is_hold k h = int_eq h.number k

abbrev pub hold_numbered : ℤ → List HoldRow → Option HoldRow
hold_numbered k = find (is_hold k)

-- the hold is in its place by number
abbrev pub with_hold : HoldRow → Tables → Tables
with_hold h t = record t { holds = put_by (λ g. g.number) h t.holds }

-- the hold was released on that day
abbrev pub with_released : ℤ → ℤ → Tables → Tables
with_released k day t = record t { holds = map (λ h. if is_hold k h then record h { released = Some day } else h) t.holds }

abbrev pub is_live : HoldRow → Bool
is_live h = not (is_some h.released)

abbrev pub holds_deposit : ℤ → HoldRow → Bool
holds_deposit n h = unwrap_or (option_map (λ d. int_eq d n) h.deposit) false

abbrev pub holds_collection : List ℕ → HoldRow → Bool
holds_collection collection h = unwrap_or (option_map (λ c. bytes_eq c collection) h.collection) false

abbrev pub holds_class : List ℕ → HoldRow → Bool
holds_class class h = unwrap_or (option_map (λ c. bytes_eq c class) h.class) false

-- it isn't released, and names the deposit, the collection or the class
abbrev pub is_live_over : ℤ → List ℕ → List ℕ → HoldRow → Bool
is_live_over n collection class h = is_live h && (holds_deposit n h || (holds_collection collection h || holds_class class h))

-- it isn't released, and names the deposit
abbrev pub is_live_on : ℤ → HoldRow → Bool
is_live_on n h = is_live h && holds_deposit n h

-- it isn't released, and names the collection and not the deposit
abbrev pub is_live_within : ℤ → List ℕ → HoldRow → Bool
is_live_within n collection h = is_live h && (holds_collection collection h && not (holds_deposit n h))

-- it isn't released, and names the class, and neither the deposit nor the collection
abbrev pub is_live_of_class : ℤ → List ℕ → List ℕ → HoldRow → Bool
is_live_of_class n collection class h = is_live h && (holds_class class h && (not (holds_deposit n h) && not (holds_collection collection h)))

-- the numbers of the live holds over a deposit of that collection and that class, ascending
abbrev pub live_holds : ℤ → List ℕ → List ℕ → Tables → List ℤ
live_holds n collection class t = map (λ h. h.number) (filter (is_live_over n collection class) t.holds)

-- ---- callers and rules, one after another

abbrev pub with_caller : CallerRow → Tables → Tables
with_caller c t = record t { callers = t.callers ++ c ∷ [] }

abbrev pub without_callers : Tables → Tables
without_callers t = record t { callers = [] }

abbrev pub without_rules : Tables → Tables
without_rules t = record t { rules = [] }

abbrev pub with_callers : List CallerRow → Tables → Tables
with_callers [] t = t
with_callers (c ∷ cs) t = with_callers cs (with_caller c t)

abbrev pub with_rule : RuleRow → Tables → Tables
with_rule r t = record t { rules = put_by (λ s. s.place) r t.rules }

abbrev pub with_rules : List RuleRow → Tables → Tables
with_rules rs t = record t { rules = put_each_by (λ s. s.place) rs t.rules }

-- ---- the order of the rows

-- deposits and holds ascend by number, rules by place; so no number and no place comes twice
pub record AreInOrder (t : Tables) : Type 0 where
  pub deposits : NumbersRise (λ d. d.number) t.deposits
  pub holds : NumbersRise (λ h. h.number) t.holds
  pub rules : PlacesRise t.rules
