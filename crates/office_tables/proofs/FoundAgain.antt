-- The trees fix the schema, so a database that is found with the trees of another is that database.
use Rattle.office_tables.proofs.Common.{◌≡◌, Some, None, List, IsTrue, refl, sym, ap, subst, ◌∙◌, State, IsLive, Trees, Row, Database, IsDatabase, Tables, version_of, this_version, Becomes, IsOffice, tables_of, IsLeft, HasSameTables, IsKnownAsOther, IsFailure, TableFault}
use Rattle.office_tables.specs.Found.{GoesOnAs}
use Rattle.sqlite_trees.specs.Objects.{catalog_tree}
use Rattle.sqlite_catalog.specs.Listing.{Lists}
use Rattle.sqlite_catalog.proofs.ReadLemmas.{lists_once}
use Rattle.office_contents.specs.declared.fault.TableFault.TheVariants.{NotAnOffice, OtherVersion, Memory, Store}

-- databases that list the same objects have one schema
pub same_schema : (a b : Database) → IsDatabase a → IsDatabase b → a.trees catalog_tree ≡ b.trees catalog_tree → a.schema ≡ b.schema
same_schema a b p q e = lists_once (b.trees catalog_tree) a.schema b.schema (subst (λ (rows : List Row). Lists rows a.schema) e p.lists) q.lists

-- databases of the same trees are one
pub same_database : (a b : Database) → IsDatabase a → IsDatabase b → a.trees ≡ b.trees → a ≡ b
same_database a b p q e = let s = same_schema a b p q (ap (λ (t : Trees). t catalog_tree) e) in λ i. record { schema = s i; trees = e i }

-- what is so of a database is so of each one with its trees
pub found_again : (P : Database → Type 0) (a b : Database) → IsDatabase a → IsDatabase b → b.trees ≡ a.trees → P a → P b
found_again P a b p q e = subst P (same_database a b p q (sym e))

-- the database that is found where the trees of an office were left
pub becomes_again : (tables : Tables) (left : Trees) (b : Database) → IsLeft tables left → IsDatabase b → b.trees ≡ left → Becomes b tables
becomes_again tables left b h q e = found_again (λ d. Becomes d tables) h.0 b h.1.office.whole.listed q (e ∙ h.2) h.1

-- a call that keeps what the connection shows keeps the database whose trees it holds
pub goes_on : (old new : State) → IsLive old → HasSameTables old new → GoesOnAs old new
goes_on old new live kept db whole left is_open =
    let same = kept is_open in
    (same.1 ∙ same_database old.now db (live same.0).0 whole left, same.2 ∙ sym same.1)

-- what was left of an office of this version is known as one
pub is_known : (tables : Tables) (s : State) → IsLive s → IsTrue s.is_open → IsLeft tables s.now.trees → IsOffice s.now × (tables_of s.now ≡ tables)
is_known tables s live is_open left = let it = becomes_again tables s.now.trees s.now left (live is_open).0 refl in (it.office, it.are)

pub fails_only : (stopped : TableFault) (tables : Tables) → (stopped ≡ NotAnOffice → version_of tables ≡ None) → (stopped ≡ OtherVersion → IsKnownAsOther tables this_version)
    → version_of tables ≡ Some this_version → IsFailure stopped
fails_only NotAnOffice tables none other is = let e = sym (none refl) ∙ is in absurd (cc)
fails_only OtherVersion tables none other is = let o = other refl in absurd (o.1 (let e : Some o.0 ≡ Some this_version = sym o.2 ∙ is in cc))
fails_only Memory tables none other is = tt
fails_only Store tables none other is = tt
