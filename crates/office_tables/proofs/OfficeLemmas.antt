-- What the statement on the row of the office answers.
use Rattle.office_tables.proofs.FirstLemmas.{◌≡◌, ℕ, pos, List, [], ◌∷◌, codes, slice_get, option_map, refl, Int, Row, Term, col, State, Shown, understood, everything, shown_of, Asks, finds_part, by_number, has_number, office_schema, office_tree, is_office_row, limits_in, limits_of, IsOffice, tables_of, office_in, shown_limits, of_office, reads_numbered}

abbrev pub limits_text : List ℕ
limits_text = codes "SELECT max_deposits, max_holds FROM office WHERE id = ?1"

abbrev limit_columns : List Term
limit_columns = col 1 3 ∷ col 1 4 ∷ []

pub asks_limits : Asks office_schema limits_text office_tree by_number limit_columns []
unfolding understood everything
asks_limits = record { names = codes "max_deposits" ∷ codes "max_holds" ∷ []; command = refl; unlisted = refl; plain = (refl, refl) }

pub finds_limits : (old new : State) (rows : List Row) → IsOffice old.now → Shown limits_text (Int (pos 1) ∷ []) old new rows
    → (new.now ≡ old.now) × (limits_of (tables_of old.now) ≡ option_map shown_limits (slice_get rows 0))
finds_limits old new rows office h =
    let read = reads_numbered old new rows office asks_limits (pos 1) (of_office office.whole.shaped) h in
    (read.0, finds_part (old.now.trees office_tree) rows (has_number (pos 1)) (shown_of (Int (pos 1) ∷ []) limit_columns) office_in is_office_row (λ r. refl) read.1 limits_in shown_limits (λ r. refl))
