-- What the CREATE texts make, one after another, and what the first INSERT means.
use Rattle.office_tables.proofs.Common.{◌≡◌, false, inl, inr, ℕ, pos, List, [], ◌∷◌, ◌++◌, map, codes, Ok, Some, slice_get, refl, subst, sym, Null, Int, Term, lit, col, Command, CreateTable, CreateIndex, Insert, Values, Table, Schema, understood, IsPlain, command_of, statement_of, everything, same_name, Index, Builds, Means, office_schema, no_schema, stage, office_table, caller_table, rule_table, class_table, collection_table, deposit_table, file_table, hold_table, content_table, hold_4_table, rule_5_table, plain_index}
use Rattle.std.specs.Fmt.{digits}
use Rattle.sqlite.specs.Compile.{table_defined_by, index_defined_by}
use Rattle.sqlite.specs.Change.{created, indexed}
use Rattle.sqlite.specs.Does.{lacks_sequence}

-- the text is that command, under the schema of the moment
abbrev IsCommand : Schema → List ℕ → Command → Type 0
IsCommand schema text command = (command_of (understood schema text) ≡ command) × (statement_of text (understood schema text) ≡ text) × IsPlain (understood schema text)

pub builds_then : (a b c : Schema) (xs ys : List (List ℕ)) → Builds a xs b → Builds b ys c → Builds a (xs ++ ys) c
builds_then a b c [] ys first second = subst (λ s. Builds s ys c) (sym first) second
builds_then a b c (x ∷ xs) ys first second = (first.0, first.1, builds_then first.0 b c xs ys first.2 second)

-- ---- texts that make tables

-- the text, its table, which has no tree yet, and the schema after it
pub record TableText : Type 0 where
  pub text : List ℕ
  pub table : Table
  pub after : Schema

abbrev pub table_by : List ℕ → Table → Schema → TableText
table_by text table after = record { text = text; table = record table { tree = 0 }; after = after }

-- what each means under the schema of its moment
abbrev AreTables : Schema → List TableText → Type 0
AreTables schema [] = Unit
AreTables schema (t ∷ ts) = (table_defined_by t.text ≡ Ok t.table) × IsCommand schema t.text CreateTable × AreTables t.after ts

-- and what it makes of that schema
abbrev MakeTables : Schema → List TableText → Schema → Type 0
MakeTables schema [] last = schema ≡ last
MakeTables schema (t ∷ ts) last = (created schema t.table ≡ t.after) × (lacks_sequence t.after ≡ false) × MakeTables t.after ts last

builds_tables : (schema last : Schema) (ts : List TableText) → AreTables schema ts → MakeTables schema ts last → Builds schema (map (λ (t : TableText). t.text) ts) last
builds_tables schema last [] mean make = make
builds_tables schema last (t ∷ ts) mean make = (
  t.after,
  inl (record { command = mean.1.0; statement = mean.1.1; plain = mean.1.2; table = t.table; defined = mean.0; is = make.0; uncounted = make.1 }),
  builds_tables t.after last ts mean.2 make.2,
)

-- ---- texts that make indexes

-- the text, the table and its place, the index, which has no tree yet, and the schema after it
pub record IndexText : Type 0 where
  pub text : List ℕ
  pub table : Table
  pub at : ℕ
  pub index : Index
  pub after : Schema

abbrev pub index_by : List ℕ → Table → ℕ → List ℕ → ℕ → Schema → IndexText
index_by text table at name column after = record { text = text; table = table; at = at; index = plain_index name 0 table.tree (column ∷ []); after = after }

abbrev AreIndexes : Schema → List IndexText → Type 0
AreIndexes schema [] = Unit
AreIndexes schema (t ∷ ts) = (index_defined_by t.table t.text ≡ Ok t.index) × IsCommand schema t.text (CreateIndex t.at) × AreIndexes t.after ts

abbrev MakeIndexes : Schema → List IndexText → Schema → Type 0
MakeIndexes schema [] last = schema ≡ last
MakeIndexes schema (t ∷ ts) last = (slice_get schema.tables t.at ≡ Some t.table) × (indexed schema t.table t.index ≡ t.after) × MakeIndexes t.after ts last

builds_indexes : (schema last : Schema) (ts : List IndexText) → AreIndexes schema ts → MakeIndexes schema ts last → Builds schema (map (λ (t : IndexText). t.text) ts) last
builds_indexes schema last [] mean make = make
builds_indexes schema last (t ∷ ts) mean make = (
  t.after,
  inr (record { at = t.at; command = mean.1.0; statement = mean.1.1; plain = mean.1.2; table = t.table; place = make.0; index = t.index; defined = mean.0; is = make.1 }),
  builds_indexes t.after last ts mean.2 make.2,
)

-- ---- the tables and indexes of version 3

abbrev pub first_tables : List TableText
first_tables =
    table_by (codes "CREATE TABLE office (id INTEGER PRIMARY KEY, version INTEGER NOT NULL, max_deposits INTEGER NOT NULL, max_holds INTEGER NOT NULL) STRICT") office_table (stage 1 0) ∷
    table_by (codes "CREATE TABLE caller (name TEXT NOT NULL PRIMARY KEY, role TEXT NOT NULL) STRICT") caller_table (stage 2 1) ∷
    table_by (codes "CREATE TABLE rule (place INTEGER PRIMARY KEY, effect INTEGER NOT NULL, role TEXT NOT NULL, action TEXT NOT NULL, collection TEXT NOT NULL, class TEXT NOT NULL) STRICT") rule_table (stage 3 1) ∷
    table_by (codes "CREATE TABLE class (name TEXT NOT NULL PRIMARY KEY, years INTEGER NOT NULL) STRICT") class_table (stage 4 2) ∷
    table_by (codes "CREATE TABLE collection (name TEXT NOT NULL PRIMARY KEY) STRICT") collection_table (stage 5 3) ∷
    table_by (codes "CREATE TABLE deposit (number INTEGER PRIMARY KEY, accession TEXT NOT NULL UNIQUE, collection TEXT NOT NULL REFERENCES collection (name), class TEXT NOT NULL REFERENCES class (name), closed INTEGER NOT NULL, deposited INTEGER NOT NULL, files INTEGER NOT NULL, bytes INTEGER NOT NULL, gone INTEGER, due INTEGER, holds INTEGER NOT NULL) STRICT") deposit_table (stage 6 4) ∷
    table_by (codes "CREATE TABLE file (deposit INTEGER NOT NULL, path TEXT NOT NULL, content INTEGER NOT NULL REFERENCES content (id), PRIMARY KEY (deposit, path)) STRICT") file_table (stage 7 5) ∷
    table_by (codes "CREATE TABLE hold (number INTEGER PRIMARY KEY, deposit INTEGER, collection TEXT, matter TEXT NOT NULL, placed INTEGER NOT NULL, released INTEGER) STRICT") hold_table (stage 8 5) ∷
    table_by (codes "CREATE TABLE content (id INTEGER PRIMARY KEY, mark BLOB NOT NULL, size INTEGER NOT NULL, bytes BLOB NOT NULL) STRICT") content_table (stage 9 5) ∷
    []

first_tables_mean : AreTables no_schema first_tables
unfolding understood everything
first_tables_mean = (refl, (refl, refl, (refl, refl)), (refl, (refl, refl, (refl, refl)), (refl, (refl, refl, (refl, refl)), (refl, (refl, refl, (refl, refl)), (refl, (refl, refl, (refl, refl)), (refl, (refl, refl, (refl, refl)), (refl, (refl, refl, (refl, refl)), (refl, (refl, refl, (refl, refl)), (refl, (refl, refl, (refl, refl)), tt)))))))))

first_tables_make : MakeTables no_schema first_tables (stage 9 5)
unfolding digits same_name
first_tables_make = (refl, refl, (refl, refl, (refl, refl, (refl, refl, (refl, refl, (refl, refl, (refl, refl, (refl, refl, (refl, refl, refl)))))))))

abbrev pub first_indexes : List IndexText
first_indexes =
    index_by (codes "CREATE INDEX hold_deposit ON hold (deposit)") hold_table 7 (codes "hold_deposit") 2 (stage 9 6) ∷
    index_by (codes "CREATE INDEX hold_collection ON hold (collection)") hold_table 7 (codes "hold_collection") 3 (stage 9 7) ∷
    index_by (codes "CREATE INDEX file_content ON file (content)") file_table 6 (codes "file_content") 3 (stage 9 8) ∷
    index_by (codes "CREATE INDEX content_mark ON content (mark)") content_table 8 (codes "content_mark") 2 (stage 9 9) ∷
    index_by (codes "CREATE INDEX deposit_due ON deposit (due)") deposit_table 5 (codes "deposit_due") 10 (stage 9 10) ∷
    []

first_indexes_mean : AreIndexes (stage 9 5) first_indexes
unfolding understood everything
first_indexes_mean = (refl, (refl, refl, (refl, refl)), (refl, (refl, refl, (refl, refl)), (refl, (refl, refl, (refl, refl)), (refl, (refl, refl, (refl, refl)), (refl, (refl, refl, (refl, refl)), tt)))))

first_indexes_make : MakeIndexes (stage 9 5) first_indexes (stage 9 10)
unfolding digits same_name
first_indexes_make = (refl, refl, (refl, refl, (refl, refl, (refl, refl, (refl, refl, refl)))))

abbrev pub table_texts : List TableText → List (List ℕ)
table_texts = map (λ (t : TableText). t.text)

abbrev pub index_texts : List IndexText → List (List ℕ)
index_texts = map (λ (t : IndexText). t.text)

abbrev pub first_texts : List (List ℕ)
first_texts = table_texts first_tables ++ index_texts first_indexes

builds_first : Builds no_schema first_texts (stage 9 10)
builds_first = builds_then no_schema (stage 9 5) (stage 9 10) (table_texts first_tables) (index_texts first_indexes)
    (builds_tables no_schema (stage 9 5) first_tables first_tables_mean first_tables_make) (builds_indexes (stage 9 5) (stage 9 10) first_indexes first_indexes_mean first_indexes_make)

-- ---- what later versions added

abbrev pub hold_4_tables : List TableText
hold_4_tables = table_by (codes "CREATE TABLE hold_4 (number INTEGER PRIMARY KEY, deposit INTEGER, collection TEXT, class TEXT, matter TEXT NOT NULL, placed INTEGER NOT NULL, released INTEGER) STRICT") hold_4_table (stage 10 10) ∷ []

hold_4_tables_mean : AreTables (stage 9 10) hold_4_tables
unfolding understood everything
hold_4_tables_mean = (refl, (refl, refl, (refl, refl)), tt)

hold_4_tables_make : MakeTables (stage 9 10) hold_4_tables (stage 10 10)
unfolding digits same_name
hold_4_tables_make = (refl, refl, refl)

abbrev pub hold_4_indexes : List IndexText
hold_4_indexes =
    index_by (codes "CREATE INDEX hold_4_deposit ON hold_4 (deposit)") hold_4_table 9 (codes "hold_4_deposit") 2 (stage 10 11) ∷
    index_by (codes "CREATE INDEX hold_4_collection ON hold_4 (collection)") hold_4_table 9 (codes "hold_4_collection") 3 (stage 10 12) ∷
    index_by (codes "CREATE INDEX hold_4_class ON hold_4 (class)") hold_4_table 9 (codes "hold_4_class") 4 (stage 10 13) ∷
    []

hold_4_indexes_mean : AreIndexes (stage 10 10) hold_4_indexes
unfolding understood everything
hold_4_indexes_mean = (refl, (refl, refl, (refl, refl)), (refl, (refl, refl, (refl, refl)), (refl, (refl, refl, (refl, refl)), tt)))

hold_4_indexes_make : MakeIndexes (stage 10 10) hold_4_indexes (stage 10 13)
unfolding digits same_name
hold_4_indexes_make = (refl, refl, (refl, refl, (refl, refl, refl)))

abbrev pub hold_4_texts : List (List ℕ)
hold_4_texts = table_texts hold_4_tables ++ index_texts hold_4_indexes

-- to the tables of version 4
pub builds_hold_4 : Builds (stage 9 10) hold_4_texts (stage 10 13)
builds_hold_4 = builds_then (stage 9 10) (stage 10 10) (stage 10 13) (table_texts hold_4_tables) (index_texts hold_4_indexes)
    (builds_tables (stage 9 10) (stage 10 10) hold_4_tables hold_4_tables_mean hold_4_tables_make) (builds_indexes (stage 10 10) (stage 10 13) hold_4_indexes hold_4_indexes_mean hold_4_indexes_make)

abbrev pub rule_5_tables : List TableText
rule_5_tables = table_by (codes "CREATE TABLE rule_5 (place INTEGER PRIMARY KEY, effect INTEGER NOT NULL, role TEXT NOT NULL, action TEXT NOT NULL, collection TEXT NOT NULL, class TEXT NOT NULL, first INTEGER NOT NULL, last INTEGER NOT NULL) STRICT") rule_5_table office_schema ∷ []

rule_5_tables_mean : AreTables (stage 10 13) rule_5_tables
unfolding understood everything
rule_5_tables_mean = (refl, (refl, refl, (refl, refl)), tt)

rule_5_tables_make : MakeTables (stage 10 13) rule_5_tables office_schema
unfolding digits same_name
rule_5_tables_make = (refl, refl, refl)

-- and to those of version 5
pub builds_rule_5 : Builds (stage 10 13) (table_texts rule_5_tables) office_schema
builds_rule_5 = builds_tables (stage 10 13) office_schema rule_5_tables rule_5_tables_mean rule_5_tables_make

-- ---- all of them

-- the texts lead from no schema to that of an office
pub builds_office : Builds no_schema (first_texts ++ hold_4_texts ++ table_texts rule_5_tables) office_schema
builds_office = builds_then no_schema (stage 10 13) office_schema (first_texts ++ hold_4_texts) (table_texts rule_5_tables)
    (builds_then no_schema (stage 9 10) (stage 10 13) first_texts hold_4_texts builds_first builds_hold_4) builds_rule_5

-- ---- the row of the office

abbrev pub start_text : List ℕ
start_text = codes "INSERT INTO office (id, version, max_deposits, max_holds) VALUES (1, ?1, ?2, ?3)"

abbrev pub start_terms : List Term
start_terms = lit (Int (pos 1)) ∷ lit Null ∷ col 0 0 ∷ col 0 1 ∷ col 0 2 ∷ []

pub start_means : Means office_schema start_text (Insert 0 (Values start_terms 5))
unfolding understood everything
start_means = record { is = refl; plain = (refl, refl) }
