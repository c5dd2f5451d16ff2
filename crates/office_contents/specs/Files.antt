-- The rows that the queries on files show, and the order of paths.
use Rattle.std.specs.Prelude.{ℕ, ℤ, List}
use Rattle.std.specs.Ordering.{nat_cmp}
use Rattle.std.specs.Cmp.Lexicographic.{slice_cmp}
use Rattle.std.specs.declared.cmp.Ordering.{Ordering}
use Rattle.sqlite.specs.Order.{Row}
use Rattle.sqlite_keyed.specs.Lists.{sort_by}
use Rattle.sql_meaning.specs.Columns.{bytes_at}
use Rattle.office_rows.specs.Rows.{FileRow, Tables, files_of}

abbrev pub shown_path : Row → List ℕ
shown_path row = bytes_at row 0

-- byte by byte
abbrev pub path_cmp : FileRow → FileRow → Ordering
path_cmp f g = slice_cmp nat_cmp f.path g.path

-- the files of the deposit, ascending by path
abbrev pub files_by_path : ℤ → Tables → List FileRow
files_by_path n t = sort_by path_cmp (files_of n t)
