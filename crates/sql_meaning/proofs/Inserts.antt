-- What an INSERT of one row tells of the rows that were there before it.
use Rattle.sql_meaning.proofs.FirstLemmas.{◌≡◌, List, [], ◌∷◌, filter, Bool, true, false, refl, sym, ap, subst, inl, inr, AllByRecursion, is_eq, cases_Bool, not-true, and_parts, tied_itself, Row, value_cmp, Table, Schema, Trees, rowid, cast_row, edit_of, with_rowid, Applies, Chosen, value_cmp_total, Has, all_has, put_all_adds, put_all_keeps, none_from_any, none_pass}
use Rattle.sqlite_schema.specs.declared.schema.Keys.{Keys}

-- no row has the rowid of this one
abbrev pub IsApart : Row → List Row → Type 0
IsApart new = AllByRecursion (λ r. is_eq (value_cmp (rowid r) (rowid new)) ≡ false)

module _ (schema : Schema) (keys : Keys) (db next : Trees) (table : Table) (source : Row) (applies : Applies schema keys db (edit_of db table [] Chosen 0 (source ∷ [])) next) where
  -- the row as it was put
  abbrev pub put : Row
  put = with_rowid Chosen (db table.tree) (cast_row table source)

  -- no row had its rowid
  pub apart : IsApart put (db table.tree)
  apart = none_from_any (λ r. is_eq (value_cmp (rowid r) (rowid put))) (db table.tree) (not-true _ (and_parts _ _ applies.fresh).0)

  pub was_put : Has (next table.tree) put
  was_put = subst (λ rows. Has rows put) (sym applies.rows) (put_all_adds (put ∷ []) (db table.tree) put applies.fresh (inl refl))

  pub was_kept : (x : Row) → Has (db table.tree) x → Has (next table.tree) x
  was_kept x there = subst (λ rows. Has rows x) (sym applies.rows) (put_all_keeps (put ∷ []) (db table.tree) x applies.fresh there)

  -- where no two rows pass a test after it, and the new one does, none did before
  pub none_before : (keep : Row → Bool) → keep put ≡ true → ((x y : Row) → Has (next table.tree) x → Has (next table.tree) y → keep x ≡ true → keep y ≡ true → x ≡ y) → filter keep (db table.tree) ≡ []
  none_before keep is alike = none_pass keep (db table.tree) (λ r there. elim (cases_Bool (keep r)) [
    | inl too ↦ absurd (
        let same : r ≡ put = alike r put (was_kept r there) was_put too is in
        let other : is_eq (value_cmp (rowid put) (rowid put)) ≡ false = subst (λ x. is_eq (value_cmp (rowid x) (rowid put)) ≡ false) same (all_has _ (db table.tree) r apart there) in
        let itself : is_eq (value_cmp (rowid put) (rowid put)) ≡ true = ap is_eq (tied_itself value_cmp_total (rowid put)) in
        cc)
    | inr isnt ↦ isnt
  ])
