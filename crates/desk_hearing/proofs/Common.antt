-- The names that several proofs of this crate cite, passed on from one place. Declares nothing.
pub use Rattle.desk_forms.specs.Queries.{AsksListing, query_pairs}
pub use Rattle.desk_forms.specs.declared.query.Listing.{Listing}
pub use Rattle.desk_heads.proofs.EndLaws.{first_found, found_first, large_none, none_large, none_short, short_none}
pub use Rattle.desk_heads.proofs.StepLemmas.{first_refused, one_judgement, refused_first}
pub use Rattle.desk_heads.specs.Ends.{head_at, IsHeadEnd}
pub use Rattle.desk_heads.specs.Heads.{HeadContents, Judges}
pub use Rattle.desk_heads.specs.declared.head_end.HeadEnd.{HeadEnd}
pub use Rattle.desk_heads.specs.declared.refusal.HeadRefusal.{HeadRefusal}
pub use Rattle.desk_hearing.specs.Asking.{bag_in, BodyAsks, caller_text, heard_from, HeardValue, ask_of_hold, QueryAsks}
pub use Rattle.desk_hearing.specs.Faults.{fault_of_body, fault_of_fill, fault_of_head, fault_of_judging, fault_of_query}
pub use Rattle.desk_hearing.specs.Hearing.{Hearing, HearsAt, HearsBody, HearsFront, HearsHead, HearsQuery, HearsRest, HearsRoute, refusal_of_head}
unfoldable pub use Rattle.desk_hearing.specs.Hearing.{Hears, route_of_head}
pub use Rattle.desk_hearing.specs.Steps.{AllowsQuery, AnswersBody, AnswersFront, AnswersQuery, IsRefusedQuery}
pub use Rattle.desk_hearing.specs.declared.owned_request.OwnedRequest.{OwnedRequest}
pub use Rattle.desk_hearing.specs.declared.fault.JudgingFault.{JudgingFault}
pub use Rattle.desk_hearing.specs.declared.judging.Announced.{Announced}
pub use Rattle.desk_hearing.specs.declared.question.Question.{Question}
pub use Rattle.desk_routes.proofs.TableLemmas.{asked-found, found-asked, method-refused, named-nothing, nothing-named, refused-method}
pub use Rattle.desk_routes.specs.PathReading.{resource_named}
pub use Rattle.desk_routes.specs.Resources.{pattern_of}
pub use Rattle.desk_routes.specs.Table.{AsksFor, method_of, route_at, route_of, route_of_resource}
pub use Rattle.desk_routes.specs.Targets.{path_part, query_part}
pub use Rattle.desk_routes.specs.declared.resource.Resource.{Resource}
pub use Rattle.desk_routes.specs.declared.refusal.DeskRefusal.{DeskRefusal}
pub use Rattle.desk_routes.specs.declared.refusal.DeskRefusal.TheVariants.{BadBody, BadHead, BadLength, BadQuery, Chunked, Method, NoRoute, TooLarge, Truncated, TwoCallers}
pub use Rattle.desk_routes.specs.declared.route.Route.{Route}
pub use Rattle.std.proofs.Common.{◌+◌, ◌++◌, ◌-◌, ◌<◌, [], ap, append-nil, arith, drop, Err, IfSome, inl, inr, length, length-append, length-drop, List, None, Ok, ok_or, Option, option_and_then, refl, Result, Some, subst, sym, take, ℕ, ◌∙◌, ◌≡◌, ◌≢◌, ◌≤◌, ◌⊎◌}
pub use Rattle.std.proofs.Math.Seq.{drop-append_seam, take-append_seam}
pub use Rattle.std.proofs.lemmas.List.{drop-append-le, drop-take, length-take-le, take-append-drop, take-append-le}
pub use Rattle.std.proofs.lemmas.Result.{err_from_is_err_and}
pub use Rattle.std.specs.Io.KnownBytes.{Consumes, IsAtEnd}
