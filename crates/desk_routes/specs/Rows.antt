-- The rows of the router that keeps the patterns, and what its parameters say. In a row 256 stands for a part, and 257 for all that is left. The
-- patterns are Depot's own, and their rows are those of `matchit`.
use Rattle.std.specs.Prelude.{ℕ, List, [], ◌∷◌, ◌++◌, codes, Option, Some, option_map, option_and_then}
use Rattle.matchit.specs.Params.{walk, named}
use Rattle.matchit.specs.Router.{RouteOf}
use Rattle.matchit.specs.Rows.{RowsOf}
use Rattle.matchit.specs.declared.params.Params.{Params}
use Rattle.desk_routes.specs.declared.resource.PathPattern.{PathPattern}
use Rattle.desk_routes.specs.declared.resource.PathPattern.TheVariants as patterns
use Rattle.desk_routes.specs.declared.resource.Resource.{Resource}
use Rattle.desk_routes.specs.declared.resource.Resource.TheVariants as resources
use Rattle.desk_routes.specs.PathReading.{Parts, class, collection, deposit, holds_of_deposit, bag, audit, hold, file, deposits, holds, due, name_of, number_of, file_path_of}

abbrev pub route_row : List ℕ → List ℕ → List (ℕ × ℕ) → PathPattern → RouteOf PathPattern
route_row tokens text names value = record { pattern = tokens; text = text; names = names; value = value }

-- the router's row for a path with these parts
abbrev pub row_of : Parts → RouteOf PathPattern
row_of (class name) = route_row (codes "/classes/" ++ 256 ∷ []) (codes "/classes/{name}") ((10, 14) ∷ []) patterns.Class
row_of (collection name) = route_row (codes "/collections/" ++ 256 ∷ []) (codes "/collections/{name}") ((14, 18) ∷ []) patterns.Collection
row_of (audit number) = route_row (codes "/deposits/" ++ 256 ∷ codes "/audit") (codes "/deposits/{number}/audit") ((11, 17) ∷ []) patterns.Audit
row_of (bag number) = route_row (codes "/deposits/" ++ 256 ∷ codes "/bag") (codes "/deposits/{number}/bag") ((11, 17) ∷ []) patterns.Bag
row_of (file number path) = route_row (codes "/deposits/" ++ 256 ∷ codes "/files/" ++ 257 ∷ []) (codes "/deposits/{number}/files/{*path}") ((11, 17) ∷ (27, 31) ∷ []) patterns.File
row_of (holds_of_deposit number) = route_row (codes "/deposits/" ++ 256 ∷ codes "/holds") (codes "/deposits/{number}/holds") ((11, 17) ∷ []) patterns.HoldsOfDeposit
row_of (deposit number) = route_row (codes "/deposits/" ++ 256 ∷ []) (codes "/deposits/{number}") ((11, 17) ∷ []) patterns.Deposit
row_of deposits = route_row (codes "/deposits") (codes "/deposits") [] patterns.Deposits
row_of due = route_row (codes "/due") (codes "/due") [] patterns.Due
row_of (hold number) = route_row (codes "/holds/" ++ 256 ∷ []) (codes "/holds/{number}") ((8, 14) ∷ []) patterns.Hold
row_of holds = route_row (codes "/holds") (codes "/holds") [] patterns.Holds

-- with its pattern, as the router keeps it
abbrev pub router_row : Parts → List ℕ × RouteOf PathPattern
router_row parts = ((row_of parts).pattern, row_of parts)

-- in the order in which the router keeps them
abbrev pub the_rows : RowsOf (RouteOf PathPattern)
the_rows =
    router_row (class []) ∷ router_row (collection []) ∷ router_row (audit []) ∷ router_row (bag []) ∷ router_row (file [] []) ∷ router_row (holds_of_deposit []) ∷ router_row (deposit [])
    ∷ router_row deposits ∷ router_row due ∷ router_row (hold []) ∷ router_row holds ∷ []

-- ---- what the parameters of a row say

-- what they took of the path, each with its name
abbrev pub Texts : Type 0
Texts = List (List ℕ × List ℕ)

abbrev pub texts_in : Params → Texts
texts_in params = walk params.pattern.now params.text.now params.path.now params.names.now 0 0

abbrev pub name_in : Texts → Option (List ℕ)
name_in texts = option_and_then name_of (named (codes "name") texts)

abbrev pub number_in : Texts → Option ℕ
number_in texts = option_and_then number_of (named (codes "number") texts)

abbrev pub path_in : Texts → Option (List ℕ)
path_in texts = option_and_then file_path_of (named (codes "path") texts)

-- the resource of a path that has this pattern and these texts
abbrev pub resource_by_texts : PathPattern → Texts → Option Resource
resource_by_texts patterns.Class texts = option_map resources.Class (name_in texts)
resource_by_texts patterns.Collection texts = option_map resources.Collection (name_in texts)
resource_by_texts patterns.Deposits texts = Some resources.Deposits
resource_by_texts patterns.Deposit texts = option_map resources.Deposit (number_in texts)
resource_by_texts patterns.HoldsOfDeposit texts = option_map resources.HoldsOfDeposit (number_in texts)
resource_by_texts patterns.Bag texts = option_map resources.Bag (number_in texts)
resource_by_texts patterns.File texts = option_and_then (λ n. option_map (resources.File n) (path_in texts)) (number_in texts)
resource_by_texts patterns.Audit texts = option_map resources.Audit (number_in texts)
resource_by_texts patterns.Holds texts = Some resources.Holds
resource_by_texts patterns.Hold texts = option_map resources.Hold (number_in texts)
resource_by_texts patterns.Due texts = Some resources.Due

-- ---- for private clauses: the router as it is filled, each time in its own order

-- with the paths of what is defined
abbrev pub definition_rows : RowsOf (RouteOf PathPattern)
definition_rows = router_row (class []) ∷ router_row (collection []) ∷ []

-- with the paths of all deposits and of one besides
abbrev pub rows_with_deposits : RowsOf (RouteOf PathPattern)
rows_with_deposits = router_row (class []) ∷ router_row (collection []) ∷ router_row (deposit []) ∷ router_row deposits ∷ []

-- with the paths below a deposit besides
abbrev pub rows_with_parts_of_deposit : RowsOf (RouteOf PathPattern)
rows_with_parts_of_deposit =
    router_row (class []) ∷ router_row (collection []) ∷ router_row (audit []) ∷ router_row (bag []) ∷ router_row (file [] []) ∷ router_row (holds_of_deposit []) ∷ router_row (deposit [])
    ∷ router_row deposits ∷ []
