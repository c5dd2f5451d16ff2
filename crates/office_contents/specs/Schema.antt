-- The schema of an office: its eleven tables, all STRICT, and their indexes. Those of an older version come first, and two of them stay empty.
use Rattle.std.specs.Prelude.{true, false, [], ◌∷◌, ◌++◌, map, take, Some, None, codes, List, ℕ}
use Rattle.sqlite.specs.Collation.TheVariants.{Binary}
use Rattle.sqlite.specs.declared.types.Value.TheVariants.{Null}
use Rattle.sqlite.specs.Table.{Table}
use Rattle.sqlite.specs.Schema.{Schema}
use Rattle.sqlite.specs.Kind.{Kind}
use Rattle.sqlite.specs.Kind.TheVariants.{Integer, Text, Blob}
use Rattle.sqlite_schema.specs.declared.schema.Column.{Column}
use Rattle.sqlite_schema.specs.declared.schema.Index.{Index}
use Rattle.sqlite_schema.specs.declared.schema.Reference.{Reference}
use Rattle.sqlite_schema.specs.declared.schema.Action.TheVariants.{NoAction}

-- ---- the forms of columns and tables

abbrev pub needed : List ℕ → Kind → Column
needed name kind = record { name = name; kind = kind; is_strict = true; not_null = true; default = Null; collation = Binary }

abbrev pub optional : List ℕ → Kind → Column
optional name kind = record { name = name; kind = kind; is_strict = true; not_null = false; default = Null; collation = Binary }

abbrev pub refers : ℕ → List ℕ → List ℕ → Reference
refers place parent column =
    record { columns = place ∷ []; parent = parent; parent_columns = column ∷ []; on_delete = NoAction; on_update = NoAction; is_deferred = false }

-- a table whose key is a whole number
abbrev pub numbered : List ℕ → ℕ → List Column → List (List ℕ) → List Reference → Table
numbered name tree columns uniques references = record {
  name = name;
  tree = tree;
  columns = columns;
  key = Some 0;
  primary = 0 ∷ [];
  uniques = uniques;
  orders = map (λ _. record { digits = 0 }) uniques;
  checks = [];
  references = references;
  computed = [];
  stamps = record { places = []; terms = []; formats = [] };
  is_counted = false;
}

-- a table whose key is these columns
abbrev pub keyed : List ℕ → ℕ → List Column → List ℕ → Table
keyed name tree columns places = record {
  name = name;
  tree = tree;
  columns = columns;
  key = None;
  primary = places;
  uniques = places ∷ [];
  orders = record { digits = 0 } ∷ [];
  checks = [];
  references = [];
  computed = [];
  stamps = record { places = []; terms = []; formats = [] };
  is_counted = false;
}

abbrev pub key_index : List ℕ → ℕ → ℕ → List ℕ → Index
key_index name tree table columns = record { name = name; tree = tree; table = table; columns = columns; order = record { digits = 0 }; is_unique = true }

abbrev pub plain_index : List ℕ → ℕ → ℕ → List ℕ → Index
plain_index name tree table columns = record { name = name; tree = tree; table = table; columns = columns; order = record { digits = 0 }; is_unique = false }

-- ---- the trees

-- the tree of each table; the numbers between them are those of the indexes
abbrev pub office_tree : ℕ
office_tree = 0

abbrev pub caller_tree : ℕ
caller_tree = 1

-- that of `rule`, which holds nothing any more: rules have days
abbrev pub old_rule_tree : ℕ
old_rule_tree = 3

abbrev pub class_tree : ℕ
class_tree = 4

abbrev pub collection_tree : ℕ
collection_tree = 6

abbrev pub deposit_tree : ℕ
deposit_tree = 8

abbrev pub file_tree : ℕ
file_tree = 10

-- that of `hold`, which holds nothing any more: a hold may name a class
abbrev pub old_hold_tree : ℕ
old_hold_tree = 12

abbrev pub content_tree : ℕ
content_tree = 13

-- that of `hold_4`
abbrev pub hold_tree : ℕ
hold_tree = 19

-- that of `rule_5`
abbrev pub rule_tree : ℕ
rule_tree = 23

-- ---- the tables

abbrev pub office_table : Table
office_table = numbered (codes "office") office_tree
    (optional (codes "id") Integer ∷ needed (codes "version") Integer ∷ needed (codes "max_deposits") Integer ∷ needed (codes "max_holds") Integer ∷ []) [] []

abbrev pub caller_table : Table
caller_table = keyed (codes "caller") caller_tree (needed (codes "name") Text ∷ needed (codes "role") Text ∷ []) (1 ∷ [])

abbrev pub rule_table : Table
rule_table = numbered (codes "rule") old_rule_tree
    (optional (codes "place") Integer ∷ needed (codes "effect") Integer ∷ needed (codes "role") Text ∷ needed (codes "action") Text
    ∷ needed (codes "collection") Text ∷ needed (codes "class") Text ∷ []) [] []

abbrev pub class_table : Table
class_table = keyed (codes "class") class_tree (needed (codes "name") Text ∷ needed (codes "years") Integer ∷ []) (1 ∷ [])

abbrev pub collection_table : Table
collection_table = keyed (codes "collection") collection_tree (needed (codes "name") Text ∷ []) (1 ∷ [])

abbrev pub deposit_table : Table
deposit_table = numbered (codes "deposit") deposit_tree
    (optional (codes "number") Integer ∷ needed (codes "accession") Text ∷ needed (codes "collection") Text ∷ needed (codes "class") Text
    ∷ needed (codes "closed") Integer ∷ needed (codes "deposited") Integer ∷ needed (codes "files") Integer ∷ needed (codes "bytes") Integer
    ∷ optional (codes "gone") Integer ∷ optional (codes "due") Integer ∷ needed (codes "holds") Integer ∷ [])
    ((2 ∷ []) ∷ []) (refers 3 (codes "collection") (codes "name") ∷ refers 4 (codes "class") (codes "name") ∷ [])

abbrev pub file_table : Table
file_table = record (keyed (codes "file") file_tree (needed (codes "deposit") Integer ∷ needed (codes "path") Text ∷ needed (codes "content") Integer ∷ []) (1 ∷ 2 ∷ [])) {
  references = refers 3 (codes "content") (codes "id") ∷ [];
}

abbrev pub hold_table : Table
hold_table = numbered (codes "hold") old_hold_tree
    (optional (codes "number") Integer ∷ optional (codes "deposit") Integer ∷ optional (codes "collection") Text ∷ needed (codes "matter") Text
    ∷ needed (codes "placed") Integer ∷ optional (codes "released") Integer ∷ []) [] []

abbrev pub content_table : Table
content_table = numbered (codes "content") content_tree
    (optional (codes "id") Integer ∷ needed (codes "mark") Blob ∷ needed (codes "size") Integer ∷ needed (codes "bytes") Blob ∷ []) [] []

-- rules with days
abbrev pub rule_5_table : Table
rule_5_table = numbered (codes "rule_5") rule_tree
    (optional (codes "place") Integer ∷ needed (codes "effect") Integer ∷ needed (codes "role") Text ∷ needed (codes "action") Text
    ∷ needed (codes "collection") Text ∷ needed (codes "class") Text ∷ needed (codes "first") Integer ∷ needed (codes "last") Integer ∷ []) [] []

-- holds that may name a class
abbrev pub hold_4_table : Table
hold_4_table = numbered (codes "hold_4") hold_tree
    (optional (codes "number") Integer ∷ optional (codes "deposit") Integer ∷ optional (codes "collection") Text ∷ optional (codes "class") Text
    ∷ needed (codes "matter") Text ∷ needed (codes "placed") Integer ∷ optional (codes "released") Integer ∷ []) [] []

-- those of version 3, of which `rule` and `hold` stay empty
abbrev pub first_tables : List Table
first_tables = office_table ∷ caller_table ∷ rule_table ∷ class_table ∷ collection_table ∷ deposit_table ∷ file_table ∷ hold_table ∷ content_table ∷ []

abbrev pub all_tables : List Table
all_tables = first_tables ++ hold_4_table ∷ rule_5_table ∷ []

-- the place of the deposits among them
abbrev pub deposit_place : ℕ
deposit_place = 5

-- the trees of the tables that hold nothing any more
abbrev pub emptied_trees : List ℕ
emptied_trees = old_hold_tree ∷ old_rule_tree ∷ []

abbrev pub first_indexes : List Index
first_indexes = key_index (codes "sqlite_autoindex_caller_1") 2 caller_tree (1 ∷ []) ∷ key_index (codes "sqlite_autoindex_class_1") 5 class_tree (1 ∷ [])
    ∷ key_index (codes "sqlite_autoindex_collection_1") 7 collection_tree (1 ∷ []) ∷ key_index (codes "sqlite_autoindex_deposit_1") 9 deposit_tree (2 ∷ [])
    ∷ key_index (codes "sqlite_autoindex_file_1") 11 file_tree (1 ∷ 2 ∷ [])
    ∷ plain_index (codes "hold_deposit") 14 old_hold_tree (2 ∷ []) ∷ plain_index (codes "hold_collection") 15 old_hold_tree (3 ∷ [])
    ∷ plain_index (codes "file_content") 16 file_tree (3 ∷ []) ∷ plain_index (codes "content_mark") 17 content_tree (2 ∷ [])
    ∷ plain_index (codes "deposit_due") 18 deposit_tree (10 ∷ []) ∷ []

abbrev pub hold_4_indexes : List Index
hold_4_indexes = plain_index (codes "hold_4_deposit") 20 hold_tree (2 ∷ []) ∷ plain_index (codes "hold_4_collection") 21 hold_tree (3 ∷ [])
    ∷ plain_index (codes "hold_4_class") 22 hold_tree (4 ∷ []) ∷ []

abbrev pub all_indexes : List Index
all_indexes = first_indexes ++ hold_4_indexes

abbrev pub office_schema : Schema
office_schema = record { tables = all_tables; indexes = all_indexes; views = [] }

abbrev pub no_schema : Schema
no_schema = record { tables = []; indexes = []; views = [] }

-- the schema with the first of its tables and indexes alone, as it is made in turn: 9 and 10 are those of version 3, 10 and 13 those of version 4
abbrev pub stage : ℕ → ℕ → Schema
stage tables indexes = record { tables = take tables all_tables; indexes = take indexes all_indexes; views = [] }
