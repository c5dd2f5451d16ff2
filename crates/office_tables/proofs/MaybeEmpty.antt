-- A column that may be empty: a cast to its kind keeps what stands in it, and `IS NULL` asks whether something does.
use Rattle.office_tables.proofs.Common.{◌≡◌, ◌⊎◌, ℤ, ◌∷◌, not, Option, Some, None, is_some, Greater, refl, sym, subst, inl, inr, Value, Null, Int, Text, Row, bytes, value_cmp, or_null, id_in, cast, Binary, binary, is_true, Is, value_cmp-Null, value_cmp-apart, maybe_int, maybe_int_at, cast_null, cast_int}
use Rattle.sqlite.specs.Kind.TheVariants as kind

-- a parameter that may be missing
pub cast_maybe : (n : Option ℤ) → cast kind.Integer (or_null Int n) ≡ or_null Int n
cast_maybe None = cast_null
cast_maybe (Some n) = cast_int n

pub maybe_back : (n : Option ℤ) (more : Row) → maybe_int_at (or_null Int n ∷ more) 0 ≡ n
maybe_back None more = refl
maybe_back (Some n) more = refl

pub keeps_int : (v : Value) → (v ≡ Null) ⊎ (v ≡ Int (id_in v)) → cast kind.Integer v ≡ v
keeps_int v (inl is) = subst (λ w. cast kind.Integer w ≡ w) (sym is) cast_null
keeps_int v (inr is) = subst (λ w. cast kind.Integer w ≡ w) (sym is) (cast_int (id_in v))

pub keeps_text : (v : Value) → (v ≡ Null) ⊎ (v ≡ Text (bytes v)) → cast kind.Text v ≡ v
keeps_text v (inl is) = subst (λ w. cast kind.Text w ≡ w) (sym is) refl
keeps_text v (inr is) = subst (λ w. cast kind.Text w ≡ w) (sym is) refl

pub null_is : (v : Value) → (v ≡ Null) ⊎ (v ≡ Int (id_in v)) → is_true (binary (Is Binary) v Null) ≡ not (is_some (maybe_int v))
unfolding binary
null_is v (inl is) = rw (is, value_cmp-Null Null) refl
null_is v (inr is) = rw is (let apart : value_cmp (Int (id_in v)) Null ≡ Greater = value_cmp-apart (Int (id_in v)) Null (λ e. cc) in rw apart refl)
