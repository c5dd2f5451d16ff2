-- The names that several proofs of this crate cite, passed on from one place. Declares nothing.
pub use Rattle.bag_text.specs.Answers.{Answers, FailsAs}
pub use Rattle.jiff.specs.Types.{Date}
pub use Rattle.jiff.specs.Words.{days_in_month, epoch_day, is_leap_year, IsDate, IsEpochDay, IsYear}
pub use Rattle.jiff_core.proofs.SignedLemmas.{signed_arith}
pub use Rattle.office_core.specs.Bounds.{max_callers, max_rules, max_years}
pub use Rattle.office_core.specs.DayReading.{date_of, day_of, day_of_date, day_parts, where_so}
unfoldable pub use Rattle.office_core.specs.DayReading.{number_of}
pub use Rattle.office_core.specs.Days.{day_text, digits, first_day, first_day_number, first_year, is_missing, IsDay, IsDayNumber, IsYearsAfter, last_day, last_day_number, last_year}
pub use Rattle.office_core.specs.FirstOf.{◌>>=◌, answer_if, first_some}
pub use Rattle.office_core.specs.Policies.{action_at, bad_rule, bad_rule_among, caller_entries, caller_in, callers_among, callers_of, day_at, day_in, days_at, days_from, EachCallerOnce, effect_at, elements, entries, faults, first_at, first_bad, GivesEach, has_bad_caller, has_bad_version, has_days, has_too_many, has_unknown_key, HasDays, HasFirstFault, HasNames, is_bad_among, is_one_of, IsBound, IsNamed, IsNamedCaller, IsPolicy, keys_of_rule, last_at, may_have_days, named_policy_fault, pattern_at, pattern_in, policy_in_tree, policy_of, policy_unless, PolicyValue, read_tree, rule_keys, rule_of_value, rule_table_at, rule_values, rules_among, rules_of, SpellsCallers, SpellsPolicy, SpellsRules, table_entries, text_at, top_keys, version_number_in, WritesDays}
unfoldable pub use Rattle.office_core.specs.Policies.{rule_of}
pub use Rattle.office_core.specs.PolicyReading.{policy_within_limits, read_callers, read_members, read_rules, rules_or}
pub use Rattle.office_core.specs.Rules.{allows, asked_on, counts_on, decision_at, decision_of, first_place, HasNoDays, IsFirstMatch, matches, matches_name, NoneMatches, patterns_match, Question, some_rule_allows}
pub use Rattle.office_core.specs.declared.caller.Caller.{Caller}
pub use Rattle.office_core.specs.declared.policy_fault.PolicyFault.TheVariants.{BadCaller, BadRule, BadVersion, Memory, TooMany, UnknownKey}
pub use Rattle.office_core.specs.declared.retention.Due.{Due}
pub use Rattle.office_core.specs.declared.retention.Due.TheVariants.{Never, On}
pub use Rattle.office_core.specs.declared.rule.Rule.{Rule}
pub use Rattle.std.proofs.Common.{◌%◌, ◌&&◌, ◌*◌, ◌+◌, ◌++◌, ◌+ℤ◌, ◌-◌, ◌/◌, ◌<◌, ◌<ℤ◌, ◌==◌, [], ◌^◌, add-one, ap, arith, Bool, bytes_eq, codes, drop, Err, false, find, FitsSigned, get_or, IfErr, IfOk, IfSome, if◌then◌else◌, inl, inr, int_le, int_lt, is_eq, is_none, is_some, IsOk, IsSome, IsSomeAnd, leb, length, length-append, Less, List, MatchResult, nat_cmp, nat_lt, neg_ℤ, negsuc, None, not, Ok, Option, option_and_then, option_map, Ordering, pos, position, refl, Result, rules, slice_get, Some, subst, suc, sym, T, take, true, unsigned_abs, unwrap_or, w16, w32, w64, w8, zero, ◌||◌, ℕ, ℤ, ◌↔◌, ◌∙◌, ◌∷◌, ◌≡◌, ◌≢◌, ◌≤◌, ◌≤ℤ◌, ◌⊎◌}
pub use Rattle.std.proofs.lemmas.Bool.{and_parts, false≢true, or_parts}
pub use Rattle.std.proofs.lemmas.Bool.Decides.{nat_tests}
pub use Rattle.std.proofs.lemmas.Int.{by_lt_z, to_z-of_z}
pub use Rattle.std.proofs.lemmas.Option.{cond_some, get_or_from_slice_get, IfSome_then, none-some, option_and_then_some, same_Some, slice_get-get_or, slice_get_within}
pub use Rattle.std.proofs.lemmas.Slice.Eq.{bytes_eq-Decides}
pub use Rattle.std.proofs.lemmas.Str.{digit_value_digit, is_utf8-from_IsUtf8}
pub use Rattle.std.specs.Cmp.Lexicographic.{slice_cmp}
pub use Rattle.std.specs.Int.{IsInRange}
pub use Rattle.std.specs.List.{AllByRecursion, filter_map, list_all, list_any, position_or_len, prefix_len}
pub use Rattle.std.specs.Ordering.{int_eq, ordering_reverse}
pub use Rattle.toml.specs.Data.{array, as_str, as_table, Data, get_member, member, Members, no_items, no_members, same_key, string, table}
pub use Rattle.toml.specs.View.{items_view, members_view, table_view}
