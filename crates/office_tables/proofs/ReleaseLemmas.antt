-- What the statements on days of release tell of the rows of an office.
use Rattle.office_tables.proofs.FirstLemmas.{◌≡◌, ◌⊎◌, ◌&&◌, ◌||◌, ℕ, ℤ, Bool, true, false, List, [], ◌∷◌, Some, refl, ap, ap₂, subst, sym, ◌∙◌, inl, inr, list_any, int_cmp, is_gt, is_lt, Value, Null, Int, Binary, id_in, Database, binary, from_truth, is_true, truth, Row, column, value_cmp, State, Shown, all_has, all_from, or3, Compare, Or, Eq, Gt, Lt, value_cmp-Int, maybe_int, any_mapped, AsksSome, reads_some, passes, HoldRow, holds_class, holds_collection, holds_deposit, office_schema, hold_tree, IsOffice, tables_of, hold_in, only, IsPlain, Ok, TableFault, Term, command_of, understood}
use Rattle.office_tables.specs.Releases.{is_outside, is_outside_of, is_over}
use Rattle.std.specs.Prelude.{Result, IfErr, Err}
use Rattle.std.proofs.Math.Bool.{and-or_distrib_right, or_assoc}
use Rattle.sqlite.specs.State.{FailsToQuery, IsNotRun}
use Rattle.office_contents.proofs.Undone.{store_unless}
use Rattle.office_contents.specs.Calls.{RunsOut}
use Rattle.office_contents.specs.Faults.{IsFailure, IsStoreUnless}
use Rattle.office_contents.specs.declared.fault.TableFault.TheVariants.{Memory}
use Rattle.office_tables.proofs.DueLemmas.{and_end}
use Rattle.office_tables.proofs.HoldLemmas.{IsStoredHold, hold_rows}
use Rattle.office_tables.proofs.HoldTexts.{outside_of}

-- ---- a day before the first or after the last

either_is : (a b : Bool) → is_true (from_truth (or3 (truth (from_truth (Some a))) (truth (from_truth (Some b))))) ≡ (a || b)
either_is true true = refl
either_is true false = refl
either_is false true = refl
either_is false false = refl

none_is : (m n : ℤ) → is_true (binary Or (binary (Compare Lt Binary) Null (Int m)) (binary (Compare Gt Binary) Null (Int n))) ≡ false
unfolding binary
none_is m n = refl

day_is : (d m n : ℤ) → is_true (binary Or (binary (Compare Lt Binary) (Int d) (Int m)) (binary (Compare Gt Binary) (Int d) (Int n))) ≡ (is_lt (int_cmp d m) || is_gt (int_cmp d n))
unfolding binary
day_is d m n = either_is (is_lt (value_cmp (Int d) (Int m))) (is_gt (value_cmp (Int d) (Int n))) ∙ ap₂ (λ a b. is_lt a || is_gt b) (value_cmp-Int d m) (value_cmp-Int d n)

outside_is : (v : Value) (m n : ℤ) → (v ≡ Null) ⊎ (v ≡ Int (id_in v)) → is_true (binary Or (binary (Compare Lt Binary) v (Int m)) (binary (Compare Gt Binary) v (Int n))) ≡ is_outside m n (maybe_int v)
outside_is v m n (inl is) = subst (λ w. is_true (binary Or (binary (Compare Lt Binary) w (Int m)) (binary (Compare Gt Binary) w (Int n))) ≡ is_outside m n (maybe_int w)) (sym is) (none_is m n)
outside_is v m n (inr is) = subst (λ w. is_true (binary Or (binary (Compare Lt Binary) w (Int m)) (binary (Compare Gt Binary) w (Int n))) ≡ is_outside m n (maybe_int w)) (sym is) (day_is (id_in v) m n)

-- ---- the holds that pass

-- a hold passes that has the value in the column and was released outside of these days
passes_outside : (place : ℕ) (v : Value) (named : Bool) (first last : ℤ) (r : Row) → IsStoredHold r → is_true (binary (Compare Eq Binary) (column r place) v) ≡ named
    → passes (v ∷ Int first ∷ Int last ∷ []) (outside_of place) r ≡ (named && is_outside first last (hold_in r).released)
passes_outside place v named first last r it is = ap₂ (λ a b. a && (b && true)) is (outside_is (column r 7) first last it.5) ∙ and_end _ _

-- whether one passes, of the holds that are on this
module _ (old new : State) (text : List ℕ) (place : ℕ) (asks : AsksSome office_schema text hold_tree (outside_of place) (only 0)) (v : Value) (first last : ℤ) (rows : List Row)
    (office : IsOffice old.now) (h : Shown text (v ∷ Int first ∷ Int last ∷ []) old new rows) where
  pub tells_outside : (those : HoldRow → Bool) → ((r : Row) → IsStoredHold r → is_true (binary (Compare Eq Binary) (column r place) v) ≡ those (hold_in r))
      → (new.now ≡ old.now) × (list_any (is_outside_of those first last) (tables_of old.now).holds ≡ list_any (λ r. true) rows)
  tells_outside those names =
      let stored = old.now.trees hold_tree in
      let params : Row = v ∷ Int first ∷ Int last ∷ [] in
      let p : HoldRow → Bool = is_outside_of those first last in
      let each = all_from (λ r. passes params (outside_of place) r ≡ p (hold_in r)) stored (λ r there.
      let it = all_has IsStoredHold stored r (hold_rows old.now office) there in
      passes_outside place v (those (hold_in r)) first last r it (names r it)) in
      let some = reads_some office_schema text hold_tree (outside_of place) (only 0) asks params old new office.whole.schema_is rows h (λ r. p (hold_in r)) each in
      (some.0, any_mapped hold_in (λ r. p (hold_in r)) p (λ r. refl) stored ∙ some.1)

-- ---- where it fails

-- memory that runs out in such a query undoes its transaction, so that it fails as the store does
module _ {text : List ℕ} {tree : ℕ} {test project : List Term} (asks : AsksSome office_schema text tree test project) (params : Row) (old new : State) (office : IsOffice old.now) where
  undone : RunsOut text params old new → new.in_transaction ≡ false
  unfolding FailsToQuery IsNotRun
  undone (inl (inl (inl h))) = absurd (elim h.0 [ inl (fault, is, e) ↦ cc | inr (c, is, inl (more, e)) ↦ cc | inr (c, is, inr (inl (others, e))) ↦ cc | inr (c, is, inr (inr (clock, e))) ↦ cc ])
  undone (inl (inl (inr h))) = h.3.autocommit
  undone (inl (inr h)) =
      let known = sym h.1.is ∙ ap (λ s. understood s text) office.whole.schema_is in
      let bare = subst IsPlain (sym known) asks.plain in
      let it = rw (bare.0, ap command_of known ∙ asks.command) at h.2 in
      absurd (elim it.2 [ inl (e, _) ↦ cc | inr (inl (e, _)) ↦ cc | inr (inr (e, _)) ↦ cc ])
  undone (inr h) = absurd (let e = h.4 in cc)

  pub some_in_store : {T : Type 0} (result : Result T TableFault) → IfErr result IsFailure → IfErr result (λ fault. fault ≡ Memory → RunsOut text params old new) → IfErr result (IsStoreUnless (new.in_transaction ≡ false))
  some_in_store (Ok value) failure memory = tt
  some_in_store (Err fault) failure memory = store_unless (new.in_transaction ≡ false) fault failure (λ is. undone (memory is))

-- ---- all of them

either_first : (a b x y : Bool) → ((a || b) || (x || y)) ≡ ((a || x) || (b || y))
either_first true b x y = refl
either_first false true true y = refl
either_first false true false y = refl
either_first false false x y = refl

any_either : {X : Type 0} (p q s : X → Bool) → ((x : X) → s x ≡ (p x || q x)) → (xs : List X) → list_any s xs ≡ (list_any p xs || list_any q xs)
any_either p q s each [] = refl
any_either p q s each (x ∷ xs) = ap₂ (λ a b. a || b) (each x) (any_either p q s each xs) ∙ either_first (p x) (q x) (list_any p xs) (list_any q xs)

outside_over : (first last n : ℤ) (c k : List ℕ) (holds : List HoldRow)
    → list_any (is_outside_of (is_over n c k) first last) holds
    ≡ (list_any (is_outside_of (holds_deposit n) first last) holds || (list_any (is_outside_of (holds_collection c) first last) holds || list_any (is_outside_of (holds_class k) first last) holds))
outside_over first last n c k holds =
    let later : HoldRow → Bool = λ h. holds_collection c h || holds_class k h in
    let those : (HoldRow → Bool) → HoldRow → Bool = λ p. is_outside_of p first last in
    any_either (those (holds_deposit n)) (those later) (those (is_over n c k)) (λ h. and-or_distrib_right (holds_deposit n h) (later h) (is_outside first last h.released)) holds
    ∙ ap (λ b. list_any (those (holds_deposit n)) holds || b)
    (any_either (those (holds_collection c)) (those (holds_class k)) (those later) (λ h. and-or_distrib_right (holds_collection c h) (holds_class k h) (is_outside first last h.released)) holds)

-- what is told of the three answers, of which the same database gave the later ones
pub gathers_outside : (old one two : Database) → one ≡ old → two ≡ one → (first last n : ℤ) (c k : List ℕ) (on within of_class : Bool)
    → on ≡ list_any (is_outside_of (holds_deposit n) first last) (tables_of old).holds
    → within ≡ list_any (is_outside_of (holds_collection c) first last) (tables_of one).holds
    → of_class ≡ list_any (is_outside_of (holds_class k) first last) (tables_of two).holds
    → ((on || within) || of_class) ≡ list_any (is_outside_of (is_over n c k) first last) (tables_of old).holds
gathers_outside old one two same again first last n c k on within of_class on_is within_is of_class_is =
    let at : (HoldRow → Bool) → Database → Bool = λ p db. list_any (is_outside_of p first last) (tables_of db).holds in
    or_assoc on within of_class
    ∙ ap₂ (λ a b. a || b) on_is (ap₂ (λ a b. a || b) (within_is ∙ ap (at (holds_collection c)) same) (of_class_is ∙ ap (at (holds_class k)) (again ∙ same)))
    ∙ sym (outside_over first last n c k (tables_of old).holds)
