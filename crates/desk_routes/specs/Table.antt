-- The table of the routes: which method on which path asks for what. RFC 9110, section 9, has the methods, and section 15.5.6
-- has what is refused with the methods that are allowed; the table is Depot's own.
use Rattle.std.specs.Prelude.{◌≡◌, ◌≢◌, ℕ, List, [], ◌∷◌, Contains, codes, bytes_eq, Option, Some, None, option_and_then, Result, Err, ok_or, if◌then◌else◌}
use Rattle.desk_routes.specs.declared.method.Method.{Method}
use Rattle.desk_routes.specs.declared.method.Method.TheVariants.{Delete, Get, Post, Put}
use Rattle.desk_routes.specs.declared.resource.PathPattern.{PathPattern}
use Rattle.desk_routes.specs.declared.resource.PathPattern.TheVariants as patterns
use Rattle.desk_routes.specs.declared.resource.Resource.{Resource}
use Rattle.desk_routes.specs.declared.resource.Resource.TheVariants as resources
use Rattle.desk_routes.specs.declared.refusal.DeskRefusal.{DeskRefusal}
use Rattle.desk_routes.specs.declared.refusal.DeskRefusal.TheVariants as refusals
use Rattle.desk_routes.specs.declared.route.Route.{Route}
use Rattle.desk_routes.specs.declared.route.Route.TheVariants as routes
use Rattle.desk_routes.specs.Resources.{SpellsResource, pattern_of}
use Rattle.desk_routes.specs.PathReading.{resource_named}

abbrev pub method_text : Method → List ℕ
method_text Delete = codes "DELETE"
method_text Get = codes "GET"
method_text Post = codes "POST"
method_text Put = codes "PUT"

-- the method and the resource of each route
abbrev pub row : Route → Method × Resource
row (routes.DefineClass name) = (Put, resources.Class name)
row (routes.DefineCollection name) = (Put, resources.Collection name)
row routes.Deposit = (Post, resources.Deposits)
row routes.List = (Get, resources.Deposits)
row (routes.Record number) = (Get, resources.Deposit number)
row (routes.Dispose number) = (Delete, resources.Deposit number)
row (routes.Holds number) = (Get, resources.HoldsOfDeposit number)
row (routes.DownloadBag number) = (Get, resources.Bag number)
row (routes.DownloadFile number path) = (Get, resources.File number path)
row (routes.Audit number) = (Get, resources.Audit number)
row routes.PlaceHold = (Post, resources.Holds)
row (routes.Release number) = (Delete, resources.Hold number)
row routes.DueList = (Get, resources.Due)

-- the methods that the paths of each pattern take, in the order of the alphabet
abbrev pub methods_of : PathPattern → List Method
methods_of patterns.Class = Put ∷ []
methods_of patterns.Collection = Put ∷ []
methods_of patterns.Deposits = Get ∷ Post ∷ []
methods_of patterns.Deposit = Delete ∷ Get ∷ []
methods_of patterns.HoldsOfDeposit = Get ∷ []
methods_of patterns.Bag = Get ∷ []
methods_of patterns.File = Get ∷ []
methods_of patterns.Audit = Get ∷ []
methods_of patterns.Holds = Post ∷ []
methods_of patterns.Hold = Delete ∷ []
methods_of patterns.Due = Get ∷ []

-- this method on this path asks for this
abbrev pub AsksFor : List ℕ → List ℕ → Route → Type 0
AsksFor method path route = (method ≡ method_text (row route).0) × SpellsResource path (row route).1

-- the path names a resource of this pattern, and the method is none of those that such a resource takes
abbrev pub IsOtherMethod : List ℕ → List ℕ → PathPattern → Type 0
IsOtherMethod method path pattern =
    (resource : Resource) × SpellsResource path resource × (pattern_of resource ≡ pattern)
    × ((allowed : Method) → Contains (methods_of pattern) allowed → method ≢ method_text allowed)

-- ---- the same, found from the method and the path

-- what a method asks of a resource, if the resource takes it
abbrev pub route_at : Method → Resource → Option Route
route_at Put (resources.Class name) = Some (routes.DefineClass name)
route_at Put (resources.Collection name) = Some (routes.DefineCollection name)
route_at Post resources.Deposits = Some routes.Deposit
route_at Get resources.Deposits = Some routes.List
route_at Get (resources.Deposit number) = Some (routes.Record number)
route_at Delete (resources.Deposit number) = Some (routes.Dispose number)
route_at Get (resources.HoldsOfDeposit number) = Some (routes.Holds number)
route_at Get (resources.Bag number) = Some (routes.DownloadBag number)
route_at Get (resources.File number path) = Some (routes.DownloadFile number path)
route_at Get (resources.Audit number) = Some (routes.Audit number)
route_at Post resources.Holds = Some routes.PlaceHold
route_at Delete (resources.Hold number) = Some (routes.Release number)
route_at Get resources.Due = Some routes.DueList
route_at method resource = None

-- the method that a word is, compared exactly
abbrev pub method_of : List ℕ → Option Method
method_of text =
    if bytes_eq text (codes "DELETE") then Some Delete
    else (if bytes_eq text (codes "GET") then Some Get
    else (if bytes_eq text (codes "POST") then Some Post
    else (if bytes_eq text (codes "PUT") then Some Put else None)))

abbrev pub route_of_resource : List ℕ → Option Resource → Result Route DeskRefusal
route_of_resource method None = Err refusals.NoRoute
route_of_resource method (Some resource) = ok_or (option_and_then (λ m. route_at m resource) (method_of method)) (refusals.Method (pattern_of resource))

-- what a method and a path ask for, or why that is refused: the path names nothing, or its resource doesn't take the method
abbrev pub route_of : List ℕ → List ℕ → Result Route DeskRefusal
route_of method path = route_of_resource method (resource_named path)
