-- What a route asks with its query and its body, and what is heard: who asks, and what. RFC 9110, section 9, has the methods, and RFC 3986,
-- section 3.4, the queries; what is asked is Depot's own.
use Rattle.std.specs.Prelude.{◌≡◌, ℕ, List, [], Option, Some, None}
use Rattle.percent_encoding.specs.Percent.{percent_decode}
use Rattle.office_core.specs.Descriptions.{Description}
use Rattle.office_core.specs.declared.request.Request.{Request}
use Rattle.office_core.specs.declared.request.Request.TheVariants as requests
use Rattle.desk_routes.specs.declared.route.Route.{Route}
use Rattle.desk_routes.specs.declared.route.Route.TheVariants as routes
use Rattle.desk_forms.specs.Queries.{query_pairs, AsksListing, DescribesDeposit}
use Rattle.desk_forms.specs.Bodies.{SaysYears, SaysHold}
use Rattle.desk_forms.specs.declared.query.Listing.{Listing}
use Rattle.desk_forms.specs.declared.body.HoldBody.{HoldBody}
use Rattle.desk_forms.specs.declared.body.HoldBody.TheVariants as holds
use Rattle.desk_hearing.specs.declared.owned_request.OwnedRequest.{OwnedRequest}
use Rattle.desk_hearing.specs.declared.owned_request.OwnedRequest.TheVariants as owned
use Rattle.desk_hearing.specs.declared.question.Question.{Question}
use Rattle.desk_hearing.specs.declared.question.Question.TheVariants as questions

-- a query without keys
abbrev pub HasNoPair : List ℕ → Type 0
HasNoPair query = query_pairs query ≡ []

-- the route with this query asks this
abbrev pub QueryAsks : Route → List ℕ → Question → Type 0
QueryAsks (routes.DefineClass name) query question = HasNoPair query × (question ≡ questions.Class name)
QueryAsks (routes.DefineCollection name) query question = HasNoPair query × (question ≡ questions.Whole (owned.DefineCollection name))
QueryAsks routes.Deposit query question = (description : Description) × DescribesDeposit (query_pairs query) description × (question ≡ questions.Deposit description)
QueryAsks routes.List query question =
    (listing : Listing) × AsksListing (query_pairs query) listing × (question ≡ questions.Whole (owned.List listing.collection listing.class))
QueryAsks (routes.Record number) query question = HasNoPair query × (question ≡ questions.Whole (owned.Record number))
QueryAsks (routes.Dispose number) query question = HasNoPair query × (question ≡ questions.Whole (owned.Dispose number))
QueryAsks (routes.Holds number) query question = HasNoPair query × (question ≡ questions.Whole (owned.Holds number))
QueryAsks (routes.DownloadBag number) query question = HasNoPair query × (question ≡ questions.Whole (owned.DownloadBag number))
QueryAsks (routes.DownloadFile number path) query question = HasNoPair query × (question ≡ questions.Whole (owned.DownloadFile number (percent_decode path)))
QueryAsks (routes.Audit number) query question = HasNoPair query × (question ≡ questions.Whole (owned.Audit number))
QueryAsks routes.PlaceHold query question = HasNoPair query × (question ≡ questions.Hold)
QueryAsks (routes.Release number) query question = HasNoPair query × (question ≡ questions.Whole (owned.Release number))
QueryAsks routes.DueList query question = HasNoPair query × (question ≡ questions.Whole owned.DueList)

-- what is asked for a hold
abbrev pub ask_of_hold : HoldBody → OwnedRequest
ask_of_hold (holds.Deposit deposit matter) = owned.HoldDeposit deposit matter
ask_of_hold (holds.Collection collection matter) = owned.HoldCollection collection matter
ask_of_hold (holds.Class class matter) = owned.HoldClass class matter

-- the question with this body asks this
abbrev pub BodyAsks : Question → List ℕ → OwnedRequest → Type 0
BodyAsks (questions.Class name) body ask = (years : Option ℕ) × SaysYears body years × (ask ≡ owned.DefineClass name years)
BodyAsks (questions.Deposit description) body ask = ask ≡ owned.Deposit description
BodyAsks questions.Hold body ask = (hold : HoldBody) × SaysHold body hold × (ask ≡ ask_of_hold hold)
BodyAsks (questions.Whole known) body ask = (body ≡ []) × (ask ≡ known)

-- ---- what is heard

-- the bag: the body of a deposit, and of any other request nothing
abbrev pub bag_in : OwnedRequest → List ℕ → List ℕ
bag_in (owned.Deposit description) body = body
bag_in ask body = []

-- who asks, by name or by the empty text, and what is asked, with which bag
pub record HeardValue : Type 0 where
  pub caller : List ℕ
  pub request : OwnedRequest
  pub bag : List ℕ

abbrev pub caller_text : Option (List ℕ) → List ℕ
caller_text None = []
caller_text (Some name) = name

-- this caller asks this, with this body
abbrev pub heard_from : Option (List ℕ) → OwnedRequest → List ℕ → HeardValue
heard_from caller ask body = record { caller = caller_text caller; request = ask; bag = bag_in ask body }

-- what a request of the office asks, and with which bag
abbrev pub ask_and_bag : Request → OwnedRequest × List ℕ
ask_and_bag (requests.DefineClass name years) = (owned.DefineClass name years, [])
ask_and_bag (requests.DefineCollection name) = (owned.DefineCollection name, [])
ask_and_bag (requests.Deposit description bag) = (owned.Deposit description, bag.now)
ask_and_bag (requests.List collection class) = (owned.List collection class, [])
ask_and_bag (requests.Record deposit) = (owned.Record deposit, [])
ask_and_bag (requests.Holds deposit) = (owned.Holds deposit, [])
ask_and_bag (requests.DownloadBag deposit) = (owned.DownloadBag deposit, [])
ask_and_bag (requests.DownloadFile deposit path) = (owned.DownloadFile deposit path.now, [])
ask_and_bag (requests.Audit deposit) = (owned.Audit deposit, [])
ask_and_bag (requests.HoldDeposit deposit matter) = (owned.HoldDeposit deposit matter, [])
ask_and_bag (requests.HoldCollection collection matter) = (owned.HoldCollection collection matter, [])
ask_and_bag (requests.HoldClass class matter) = (owned.HoldClass class matter, [])
ask_and_bag (requests.Release hold) = (owned.Release hold, [])
ask_and_bag (requests.Dispose deposit) = (owned.Dispose deposit, [])
ask_and_bag requests.DueList = (owned.DueList, [])
