-- The names that several proofs of this crate cite, passed on from one place. Declares nothing.
pub use Rattle.desk_forms.specs.Queries.{AsksListing, count_of, DescribesDeposit, GivesName, HasOnly, HaveForm, IsDayText, IsDepositQuery, IsListing, query_pairs, OccursOnce, text_of, values_under}
pub use Rattle.desk_forms.specs.QueryReading.{has_only}
pub use Rattle.office_core.specs.Descriptions.{Description}
pub use Rattle.desk_forms.specs.declared.query.Listing.{Listing}
pub use Rattle.form_urlencoded.specs.Parse.{raw_pairs_left}
pub use Rattle.office_core.specs.Days.{day_text}
pub use Rattle.office_core.specs.Policies.{is_one_of}
pub use Rattle.std.proofs.Common.{◌*◌, ◌+◌, ◌++◌, ◌<◌, [], ap, arith, Bor, codes, Contains, Decides, false, filter, inl, inr, length, List, map, nat_eq, None, Option, option_map, refl, rules, Some, subst, suc, sym, true, zero, ℕ, ◌∙◌, ◌∷◌, ◌≡◌, ◌≤◌, ◌⊎◌}
pub use Rattle.std.proofs.lemmas.Bool.{cases_Bool, cond-false, cond-true, cond_both}
pub use Rattle.std.proofs.lemmas.Bool.Decides.{Decides-by_and, Decides-by_or, Decides-like, nat_tests, not_from_Decides}
pub use Rattle.std.proofs.lemmas.List.Elements.{All-contains, Contains-append_cases, Contains-append_right, Contains-get_or, Contains-push_cases, Decides-contains}
pub use Rattle.std.specs.Cmp.Lexicographic.{bytes_decides, pointwise}
