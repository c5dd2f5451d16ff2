-- The names that several proofs of this crate cite, passed on from one place. Declares nothing.
pub use Rattle.desk_answers.specs.Bodies.{content_of, status_of}
pub use Rattle.desk_answers.specs.Members.{member_data, with_member}
pub use Rattle.desk_answers.specs.Messages.{IsResponse, named_value, response_fields, values_of}
pub use Rattle.desk_answers.specs.Objects.{list_of, object_of, whole}
pub use Rattle.desk_answers.specs.Refusals.{refusal_data, refusal_status}
pub use Rattle.desk_answers.specs.Responses.{body_of, Content, head_text, json, media_text, media_type_of, octets, response_text}
pub use Rattle.desk_answers.specs.Statuses.{code_of, phrase_of}
pub use Rattle.httparse.specs.Grammar.{AllPass, crlf, Field, is_ows, is_value_byte, IsField, IsToken, print_field, ReadsResponse, ResponseHead, skip_ows, trim_ows}
unfoldable pub use Rattle.httparse.specs.Grammar.{is_token_byte, print_response}
pub use Rattle.office_core.specs.declared.answer.Answer.{Answer}
pub use Rattle.office_core.specs.declared.refusal.Refusal.{Refusal}
pub use Rattle.serde_json.specs.Data.{Data, Members, no_members, put, string}
pub use Rattle.serde_json.specs.View.{items_of, members_view, view}
pub use Rattle.serde_json.specs.Written.{compact_text, has_float, items_text}
pub use Rattle.std.proofs.Common.{◌%◌, ◌+◌, ◌++◌, ◌<◌, [], ◌^◌, ap, append-nil, append_assoc, arith, Bool, codes, decimal, drop, false, get_or, inl, inr, IsTrue, length, List, lit<, lit≤, map, None, refl, reverse, rules, Some, subst, sym, take, true, ℕ, ◌↔◌, ◌∙◌, ◌∷◌, ◌≡◌, ◌≢◌, ◌≤◌, ◌⊎◌}
pub use Rattle.std.proofs.lemmas.Fmt.{decimal_by_steps, decimal_is_IsNumeral}
pub use Rattle.std.proofs.lemmas.List.{drop_all, drop_at, map-append, reverse-append, take_at, take_more}
pub use Rattle.std.proofs.lemmas.List.Elements.{All-append, All-cons, All-head, All-nil, All-push, All-tail, All-weaker}
pub use Rattle.std.proofs.lemmas.List.Sums.{AllPass-from_list_all, fold_more}
pub use Rattle.std.specs.List.{All, flat_map, fold, list_all}
