-- The table of the routes, read by method and resource.
use Rattle.desk_routes.proofs.Common.{◌≡◌, ◌⊎◌, inl, inr, ℕ, zero, suc, List, [], ◌∷◌, Option, Some, None, Ok, Err, true, refl, sym, ap, ◌∙◌, subst, arith, codes, bytes_eq, ok_or, option_and_then, Contains, map, slice_cmp, bytes_decides, PathPattern, Resource, SpellsResource, pattern_of, resource_named}
use Rattle.std.specs.List.Sorted.{IsStrictlySortedBy}
use Rattle.std.specs.Ordering.{nat_cmp}
use Rattle.desk_routes.specs.declared.method.Method.{Method}
use Rattle.desk_routes.specs.declared.method.Method.TheVariants.{Delete, Get, Post, Put}
use Rattle.desk_routes.specs.declared.resource.PathPattern.TheVariants as patterns
use Rattle.desk_routes.specs.declared.resource.Resource.TheVariants as resources
use Rattle.desk_routes.specs.declared.refusal.DeskRefusal.{DeskRefusal}
use Rattle.desk_routes.specs.declared.refusal.DeskRefusal.TheVariants as refusals
use Rattle.desk_routes.specs.declared.route.Route.{Route}
use Rattle.desk_routes.specs.declared.route.Route.TheVariants as routes
use Rattle.desk_routes.specs.Table.{method_text, row, methods_of, AsksFor, IsOtherMethod, route_at, method_of, route_of_resource, route_of}
use Rattle.desk_routes.proofs.SpellingLemmas.{spelling-read, reading-spelled}
use Rattle.office_core.proofs.OptionLemmas.{by_Bool, by_Option}

-- ---- rows

pub row-found : (route : Route) → route_at (row route).0 (row route).1 ≡ Some route
row-found (routes.DefineClass name) = refl
row-found route = refl

abbrev pub IsRow : Route → Method → Resource → Type 0
IsRow route method resource = ((row route).0 ≡ method) × ((row route).1 ≡ resource)

same_row : (route found : Route) → Some found ≡ Some route → IsRow route (row found).0 (row found).1
same_row route found e = let same : found ≡ route = cc in subst (λ r. IsRow r (row found).0 (row found).1) same (refl, refl)

pub row-only : (method : Method) (resource : Resource) (route : Route) → route_at method resource ≡ Some route → IsRow route method resource
row-only Put (resources.Class name) route e = same_row route (routes.DefineClass name) e
row-only Put (resources.Collection name) route e = same_row route (routes.DefineCollection name) e
row-only Post resources.Deposits route e = same_row route routes.Deposit e
row-only Get resources.Deposits route e = same_row route routes.List e
row-only Get (resources.Deposit number) route e = same_row route (routes.Record number) e
row-only Delete (resources.Deposit number) route e = same_row route (routes.Dispose number) e
row-only Get (resources.HoldsOfDeposit number) route e = same_row route (routes.Holds number) e
row-only Get (resources.Bag number) route e = same_row route (routes.DownloadBag number) e
row-only Get (resources.File number path) route e = same_row route (routes.DownloadFile number path) e
row-only Get (resources.Audit number) route e = same_row route (routes.Audit number) e
row-only Post resources.Holds route e = same_row route routes.PlaceHold e
row-only Delete (resources.Hold number) route e = same_row route (routes.Release number) e
row-only Get resources.Due route e = same_row route routes.DueList e
row-only method resource route e = absurd (let z = e in cc)

pub row-at : (method : Method) (resource : Resource) (route : Route) → IsRow route method resource → route_at method resource ≡ Some route
row-at method resource route h = rw (← h.0, ← h.1) (row-found route)

-- ---- allowed methods

one_of : (a x : Method) → Contains (a ∷ []) x → a ≡ x
one_of a x (zero, low, is) = is
one_of a x (suc k, low, is) = absurd (omega arith)

two_of : (a b x : Method) → Contains (a ∷ b ∷ []) x → (a ≡ x) ⊎ (b ≡ x)
two_of a b x (zero, low, is) = inl is
two_of a b x (suc zero, low, is) = inr is
two_of a b x (suc (suc k), low, is) = absurd (omega arith)

abbrev pub HasRoute : Resource → Method → Type 0
HasRoute resource method = (route : Route) × (route_at method resource ≡ Some route)

either : (a b x : Method) (resource : Resource) → HasRoute resource a → HasRoute resource b → Contains (a ∷ b ∷ []) x → HasRoute resource x
either a b x resource p q c = by (two_of a b x c)
  where
    by : (a ≡ x) ⊎ (b ≡ x) → HasRoute resource x
    by (inl e) = subst (HasRoute resource) e p
    by (inr e) = subst (HasRoute resource) e q

pub allowed-route : (method : Method) (resource : Resource) → Contains (methods_of (pattern_of resource)) method → HasRoute resource method
allowed-route method (resources.Class name) c = subst (HasRoute (resources.Class name)) (one_of Put method c) (routes.DefineClass name, refl)
allowed-route method (resources.Collection name) c = subst (HasRoute (resources.Collection name)) (one_of Put method c) (routes.DefineCollection name, refl)
allowed-route method resources.Deposits c = either Get Post method resources.Deposits (routes.List, refl) (routes.Deposit, refl) c
allowed-route method (resources.Deposit number) c = either Delete Get method (resources.Deposit number) (routes.Dispose number, refl) (routes.Record number, refl) c
allowed-route method (resources.HoldsOfDeposit number) c = subst (HasRoute (resources.HoldsOfDeposit number)) (one_of Get method c) (routes.Holds number, refl)
allowed-route method (resources.Bag number) c = subst (HasRoute (resources.Bag number)) (one_of Get method c) (routes.DownloadBag number, refl)
allowed-route method (resources.File number path) c = subst (HasRoute (resources.File number path)) (one_of Get method c) (routes.DownloadFile number path, refl)
allowed-route method (resources.Audit number) c = subst (HasRoute (resources.Audit number)) (one_of Get method c) (routes.Audit number, refl)
allowed-route method resources.Holds c = subst (HasRoute resources.Holds) (one_of Post method c) (routes.PlaceHold, refl)
allowed-route method (resources.Hold number) c = subst (HasRoute (resources.Hold number)) (one_of Delete method c) (routes.Release number, refl)
allowed-route method resources.Due c = subst (HasRoute resources.Due) (one_of Get method c) (routes.DueList, refl)

pub route-allowed : (method : Method) (resource : Resource) (route : Route) → route_at method resource ≡ Some route → Contains (methods_of (pattern_of resource)) method
route-allowed Put (resources.Class name) route e = (0, omega arith, refl)
route-allowed Put (resources.Collection name) route e = (0, omega arith, refl)
route-allowed Get resources.Deposits route e = (0, omega arith, refl)
route-allowed Post resources.Deposits route e = (1, omega arith, refl)
route-allowed Delete (resources.Deposit number) route e = (0, omega arith, refl)
route-allowed Get (resources.Deposit number) route e = (1, omega arith, refl)
route-allowed Get (resources.HoldsOfDeposit number) route e = (0, omega arith, refl)
route-allowed Get (resources.Bag number) route e = (0, omega arith, refl)
route-allowed Get (resources.File number path) route e = (0, omega arith, refl)
route-allowed Get (resources.Audit number) route e = (0, omega arith, refl)
route-allowed Post resources.Holds route e = (0, omega arith, refl)
route-allowed Delete (resources.Hold number) route e = (0, omega arith, refl)
route-allowed Get resources.Due route e = (0, omega arith, refl)
route-allowed method resource route e = absurd (let z = e in cc)

pub methods-sorted : (pattern : PathPattern) → IsStrictlySortedBy (slice_cmp nat_cmp) (map method_text (methods_of pattern))
unfolding IsStrictlySortedBy
methods-sorted patterns.Deposits = ((refl, tt), (tt, tt))
methods-sorted patterns.Deposit = ((refl, tt), (tt, tt))
methods-sorted pattern = (tt, tt)

-- ---- the words of the methods

method-read : (method : Method) → method_of (method_text method) ≡ Some method
method-read Delete = refl
method-read _ = refl

same_text : (a b : List ℕ) → bytes_eq a b ≡ true → a ≡ b
same_text a b e = (bytes_decides a b).0 e

method-written : (text : List ℕ) (method : Method) → method_of text ≡ Some method → text ≡ method_text method
method-written text method e =
    by_Bool (bytes_eq text (codes "DELETE")) (λ d. found Delete d (rw d at e))
    (λ d. by_Bool (bytes_eq text (codes "GET")) (λ g. found Get g (rw (d, g) at e))
    (λ g. by_Bool (bytes_eq text (codes "POST")) (λ o. found Post o (rw (d, g, o) at e))
    (λ o. by_Bool (bytes_eq text (codes "PUT")) (λ p. found Put p (rw (d, g, o, p) at e)) (λ p. absurd (let k = rw (d, g, o, p) at e in cc)))))
  where
    found : (m : Method) → bytes_eq text (method_text m) ≡ true → Some m ≡ Some method → text ≡ method_text method
    found m is q = let same : m ≡ method = cc in same_text text (method_text m) is ∙ ap method_text same

-- ---- what a method and a path ask for

refused-gives : (found : Option Route) (refusal : DeskRefusal) (route : Route) → ok_or found refusal ≡ Ok route → found ≡ Some route
refused-gives None refusal route e = absurd (let z = e in cc)
refused-gives (Some r) refusal route e = let z = e in cc

pub asked-found : (method path : List ℕ) (route : Route) → AsksFor method path route → route_of method path ≡ Ok route
asked-found method path route h =
    let resource = spelling-read path (row route).1 h.1 in
    let word : method_of method ≡ Some (row route).0 = ap method_of h.0 ∙ method-read (row route).0 in
    rw resource (rw word (rw (row-found route) refl))

pub found-asked : (method path : List ℕ) (route : Route) → route_of method path ≡ Ok route → AsksFor method path route
found-asked method path route e =
    by_Option (resource_named path) (λ none. absurd (let z = rw none at e in cc))
    (λ resource is. by_Option (method_of method) (λ none. absurd (let z = rw (is, none) at e in cc))
    (λ m w.
    let r = row-only m resource route (refused-gives (route_at m resource) _ route (rw (is, w) at e)) in
    (method-written method m w ∙ ap method_text (sym r.0), subst (SpellsResource path) (sym r.1) (reading-spelled path resource is))))

no_route : (found : Option Route) (pattern : PathPattern) → ok_or found (refusals.Method pattern) ≡ Err refusals.NoRoute → ⊥
no_route None pattern e = let z = e in cc
no_route (Some r) pattern e = let z = e in cc

pub nothing-named : (method path : List ℕ) → route_of method path ≡ Err refusals.NoRoute → (resource : Resource) → SpellsResource path resource → ⊥
nothing-named method path e resource h =
    no_route (option_and_then (λ m. route_at m resource) (method_of method)) (pattern_of resource) (sym (ap (route_of_resource method) (spelling-read path resource h)) ∙ e)

pub named-nothing : (method path : List ℕ) → ((resource : Resource) → SpellsResource path resource → ⊥) → route_of method path ≡ Err refusals.NoRoute
named-nothing method path h = by_Option (resource_named path) (λ none. rw none refl) (λ resource is. absurd (h resource (reading-spelled path resource is)))

refused-none : (found : Option Route) (was pattern : PathPattern) → ok_or found (refusals.Method was) ≡ Err (refusals.Method pattern) → (found ≡ None) × (was ≡ pattern)
refused-none None was pattern e = (refl, let z = e in cc)
refused-none (Some r) was pattern e = absurd (let z = e in cc)

pub method-refused : (method path : List ℕ) (pattern : PathPattern) → route_of method path ≡ Err (refusals.Method pattern) → IsOtherMethod method path pattern
method-refused method path pattern e =
    by_Option (resource_named path) (λ none. absurd (let z = rw none at e in cc))
    (λ resource is.
    let r = refused-none (option_and_then (λ m. route_at m resource) (method_of method)) (pattern_of resource) pattern (rw is at e) in (
      resource,
      reading-spelled path resource is,
      r.1,
      λ allowed c word.
          let here : Contains (methods_of (pattern_of resource)) allowed = subst (λ p. Contains (methods_of p) allowed) (sym r.1) c in
          let route = allowed-route allowed resource here in
          let reads : method_of method ≡ Some allowed = ap method_of word ∙ method-read allowed in
          let none : route_at allowed resource ≡ None = sym (ap (option_and_then (λ m. route_at m resource)) reads) ∙ r.0 in
          let both : Some route.0 ≡ None = sym route.1 ∙ none in
          let z = both in cc,
    ))

pub refused-method : (method path : List ℕ) (pattern : PathPattern) → IsOtherMethod method path pattern → route_of method path ≡ Err (refusals.Method pattern)
refused-method method path pattern (resource, spells, same, never) =
    rw (spelling-read path resource spells) (by_Option (method_of method) (λ none. rw none (ap (λ p. Err (refusals.Method p)) same))
    (λ m w. rw w (by_Option (route_at m resource) (λ none. rw none (ap (λ p. Err (refusals.Method p)) same))
    (λ route is. absurd (never m (subst (λ p. Contains (methods_of p) m) same (route-allowed m resource route is)) (method-written method m w))))))
