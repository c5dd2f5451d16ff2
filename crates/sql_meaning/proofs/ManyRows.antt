-- UPDATE of each row that passes a test, as one edit: whatever order the query shows them in, each is set at its own place.
use Rattle.sql_meaning.proofs.FirstLemmas.{◌≡◌, ℕ, List, [], ◌∷◌, map, filter, drop, slice_get, not, Bool, true, false, Some, Ok, Less, refl, sym, ap, ap₂, subst, subst₂, ◌∙◌, inl, inr, if◌then◌else◌, AllByRecursion, ordering_reverse, cases_Bool, Row, value_cmp, Term, cast_row, Table, Schema, Trees, rowid, IsTable, Edit, edit_of, edited, without_all, have_rowids, Given, Update, State, Executes, value_cmp_total, IsShaped, Has, ids_of, given, put_all_has, put_all_keeps, put_all_adds, all_has, has_filtered, has_kept, has_mapped, mapped_has, Changes, IsIdle, Means, updates, scan, as_program, shown_of, scanned, answer_sound, answer_complete, deleted, edited_shaped, set_table}
use Rattle.sqlite_trees.specs.declared.store.Shape.TheVariants as shape
use Rattle.sqlite_rules.specs.Edit.{are_fresh}
use Rattle.sql_meaning.proofs.Scanning.{passes}

-- ---- two tables with the same rows are one

never_both : (a b : Row) → value_cmp (rowid a) (rowid b) ≡ Less → value_cmp (rowid b) (rowid a) ≡ Less → ⊥
never_both a b p q = let e = value_cmp_total.antisymm (rowid a) (rowid b) ∙ ap ordering_reverse q in cc

same_rows : (xs ys : List Row) → IsTable xs → IsTable ys → ((r : Row) → Has xs r → Has ys r) → ((r : Row) → Has ys r → Has xs r) → xs ≡ ys
same_rows [] [] p q a b = refl
same_rows [] (y ∷ ys) p q a b = absurd (b y (inl refl))
same_rows (x ∷ xs) [] p q a b = absurd (a x (inl refl))
same_rows (x ∷ xs) (y ∷ ys) p q a b =
    let first : x ≡ y = elim (a x (inl refl)) [
      | inl e ↦ e
      | inr later ↦ elim (b y (inl refl)) [ inl e ↦ sym e | inr also ↦ absurd (never_both x y (all_has _ xs y p.0 also) (all_has _ ys x q.0 later)) ]
    ] in
    let past = λ (z : Row) (zs : List Row) (up : AllByRecursion (λ r. value_cmp (rowid z) (rowid r) ≡ Less) zs) (r : Row) (h : Has zs r) (e : r ≡ z).
    let lower = rw e at (all_has _ zs r up h) in never_both z z lower lower in
    ap₂ ◌∷◌ first (same_rows xs ys p.1 q.1
    (λ r h. elim (a r (inr h)) [ inl e ↦ absurd (past x xs p.0 r h (e ∙ sym first)) | inr k ↦ k ])
    (λ r h. elim (b r (inr h)) [ inl e ↦ absurd (past y ys q.0 r h (e ∙ first)) | inr k ↦ k ]))

-- ---- the edit

module _ (db : Trees) (table : Table) (answer : List Row) (keep : Row → Bool) (shown set : Row → Row) (shaped : IsShaped shape.Table (db table.tree)) where
  abbrev edit : Edit
  edit = edit_of db table (ids_of answer) Given 1 answer

  abbrev left : List Row
  left = without_all (db table.tree) (ids_of answer)

  abbrev revised : Row → Row
  revised r = if keep r then set r else r

  pub updated_all : have_rowids edit.news ≡ true → are_fresh left edit.news ≡ true → ((r : Row) → rowid (shown r) ≡ rowid r)
      → ((x : Row) → Has answer x → (r : Row) × Has (db table.tree) r × (keep r ≡ true) × (x ≡ shown r)) → ((r : Row) → Has (db table.tree) r → keep r ≡ true → Has answer (shown r))
      → ((r : Row) → Has (db table.tree) r → keep r ≡ true → (cast_row table (drop 1 (shown r)) ≡ set r) × (rowid (set r) ≡ rowid r))
      → edited db edit ≡ map revised (db table.tree)
  updated_all keyed fresh same sound complete sets =
      let rows = db table.tree in
      let cast : Row → Row = λ s. cast_row table (drop 1 s) in
      let news_are : edit.news ≡ map cast answer = given left (map cast answer) in
      let others : left ≡ filter (λ r. not (keep r)) rows = deleted db table answer keep shown shaped same sound complete in
      let was : (r : Row) → Has left r → Has rows r × (not (keep r) ≡ true) = λ r there. has_filtered (λ x. not (keep x)) rows r (subst (λ xs. Has xs r) others there) in
      let keeps : (r : Row) → Has rows r → keep r ≡ false → Has left r = λ r there isnt. subst (λ xs. Has xs r) (sym others) (has_kept (λ x. not (keep x)) rows r there (ap not isnt)) in
      same_rows (edited db edit) (map revised rows) (edited_shaped db edit keyed shaped).0 (set_table revised rows same_id shaped.0)
      (λ x there. elim (put_all_has edit.news left x there) [
        | inl new ↦
            let y = has_mapped cast answer x (subst (λ xs. Has xs x) news_are new) in
            let r = sound y.0 y.1 in
            let is : x ≡ revised r.0 = y.2 ∙ ap cast r.3 ∙ (sets r.0 r.1 r.2).0 ∙ sym (ap (λ b. if b then set r.0 else r.0) r.2) in
            subst (λ z. Has (map revised rows) z) (sym is) (mapped_has revised rows r.0 r.1)
        | inr old ↦
            let it = was x old in
            let is : revised x ≡ x = spared x it.1 in
            subst (λ z. Has (map revised rows) z) is (mapped_has revised rows x it.0)
      ])
      (λ x there.
      let r = has_mapped revised rows x there in
      subst (λ z. Has (edited db edit) z) (sym r.2) (elim (cases_Bool (keep r.0)) [
        | inl is ↦
            let e : cast (shown r.0) ≡ revised r.0 = (sets r.0 r.1 is).0 ∙ sym (ap (λ b. if b then set r.0 else r.0) is) in
            put_all_adds edit.news left (revised r.0) fresh (subst₂ (λ xs z. Has xs z) (sym news_are) e (mapped_has cast answer (shown r.0) (complete r.0 r.1 is)))
        | inr isnt ↦
            let e : r.0 ≡ revised r.0 = sym (ap (λ b. if b then set r.0 else r.0) isnt) in
            put_all_keeps edit.news left (revised r.0) fresh (subst (λ z. Has left z) e (keeps r.0 r.1 isnt))
      ]))
    where
      same_id : (r : Row) → Has (db table.tree) r → rowid (revised r) ≡ rowid r
      same_id r there = elim (cases_Bool (keep r)) [ inl is ↦ ap (λ b. rowid (if b then set r else r)) is ∙ (sets r there is).1 | inr isnt ↦ ap (λ b. rowid (if b then set r else r)) isnt ]

      by_test : (b : Bool) (r : Row) → not b ≡ true → (if b then set r else r) ≡ r
      by_test true r h = absurd cc
      by_test false r h = refl

      spared : (r : Row) → not (keep r) ≡ true → revised r ≡ r
      spared r h = by_test (keep r) r h

-- ---- the statement

module _ (text : List ℕ) (params : Row) (old new : State) (schema : Schema) (has : old.now.schema ≡ schema) (at : ℕ) (table : Table)
    (is_table : slice_get schema.tables at ≡ Some table) (idle : IsIdle schema) (shaped : IsShaped shape.Table (old.now.trees table.tree))
    (test columns : List Term) (keep : Row → Bool) (each : AllByRecursion (λ r. passes params test r ≡ keep r) (old.now.trees table.tree)) where
  -- each row that passes is set, and all others are as they were
  pub record RevisesAll (set : Row → Row) (count : ℕ) : Type 0 where
    pub answer : List Row
    pub change : Changes schema old new (edit_of old.now.trees table (ids_of answer) Given 1 answer) count (edit_of old.now.trees table (ids_of answer) Given 1 answer).news
    pub made : edited old.now.trees (edit_of old.now.trees table (ids_of answer) Given 1 answer) ≡ map (λ r. if keep r then set r else r) (old.now.trees table.tree)

  pub revises_all : Means schema text (Update at (as_program (scan table.tree test columns []))) → (set : Row → Row) → ((r : Row) → rowid (shown_of params columns r) ≡ rowid r)
      → ((r : Row) → Has (old.now.trees table.tree) r → keep r ≡ true → (cast_row table (drop 1 (shown_of params columns r)) ≡ set r) × (rowid (set r) ≡ rowid r))
      → (count : ℕ) → Executes text params old new (Ok count) → RevisesAll set count
  revises_all means set same sets count h =
      let db = old.now.trees in
      let done = updates text params old new schema has at table is_table idle (as_program (scan table.tree test columns [])) means count h in
      let found = scanned db params table.tree test columns [] done.0 done.1.answer in
      record {
        answer = done.0;
        change = done.2;
        made = updated_all db table done.0 keep (shown_of params columns) set shaped done.2.applies.keyed done.2.applies.fresh same
            (answer_sound db params table.tree test columns [] done.0 keep found each) (answer_complete db params table.tree test columns [] done.0 keep found each) sets;
      }
