use Rattle.office_queries.proofs.Common.{ℕ, ℤ, rules, ◌≡◌, pos, ◌+◌, ◌∷◌, ◌<◌, ◌≤◌, List, length, get_or, map, drop, sym, ap, refl, ◌∙◌, arith, length-map, Option, Some, ◌>>=◌, int_at, max_total, Row}
use Rattle.std.proofs.lemmas.List.{at_drop_all, at_drop_more}
use Rattle.office_queries.proofs.Totals.{one_more, total_after, total_is}
use Rattle.office_queries.proofs.stocks.stock_in.Goals as goal

abbrev sizes_of : List Row → List ℤ
sizes_of = map (λ row. int_at row 1)

-- the total where the next of the sizes is one more
left_more : (bytes more : ℕ) (rows : List Row) (i : ℕ) (d : Row) → i < length rows → int_at (get_or rows i d) 1 ≡ pos more → total_after bytes (sizes_of (drop i rows)) ≡ total_after (bytes + more) (sizes_of (drop (i + 1) rows))
left_more bytes more rows i d low read =
    let rest = sizes_of (drop (i + 1) rows) in
    at_drop_more (λ left. total_after bytes (sizes_of left)) rows i d low ∙ ap (λ size. total_after bytes (size ∷ rest)) read ∙ one_more bytes more rest

pub loop-row-init : goal.loop-row-init
loop-row-init c = (refl, omega arith)

pub loop-row-preserved : goal.loop-row-preserved
loop-row-preserved c =
    let rows = c.args.rows.now in
    let i = c.loop-row.row-index in
    let low : c.loop-row.row-index < length c.args.rows.now = search rules in
    let next : c.in-Some.sum ≡ c.loop-row.bytes + c.in-Ok.more = search rules in
    let read : int_at (get_or rows i _) 1 ≡ pos c.in-Ok.more = ap (λ (row : Row). int_at row 1) (sym c.row-item.is) ∙ search rules in
    let fits : c.loop-row.bytes + c.in-Ok.more < 18446744073709551616 = search rules in
    (c.loop-row.invariant.0 ∙ left_more c.loop-row.bytes c.in-Ok.more rows i _ low read ∙ ap (λ bytes. total_after bytes (sizes_of (drop (i + 1) rows))) (sym next), omega (arith, next, fits))

pub returns-clause-told : goal.returns-clause-told
returns-clause-told c =
    let rows = c.args.rows.now in
    let bytes = c.loop-row.bytes in
    let few : c.loop-row.bytes ≤ max_total = omega (arith, c.loop-row.invariant.1) in
    let total = c.loop-row.invariant.0 ∙ at_drop_all (λ left. total_after bytes (sizes_of left)) rows c.loop-row.row-index c.loop-row-test.false ∙ total_is bytes few in
    ap (λ (o : Option ℕ). o >>= λ bytes. Some (record { contents = length (sizes_of rows); bytes = bytes })) total ∙ ap (λ n. Some (record { contents = n; bytes = bytes })) (length-map rows _)
