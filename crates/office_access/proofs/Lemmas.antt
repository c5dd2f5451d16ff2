-- The lemmas of this crate that several proofs of its functions cite, passed on from one place. Declares nothing.
pub use Rattle.office_access.proofs.Common.{◌&&◌, ◌+◌, ◌<◌, ◌>>=◌, [], and_parts, answer_if, ap, arith, cases_Bool, clean_first, counted_hold_in, counted_read, day_numbered, days_read, Decision, decision_by, decision_is, denial_at, denial_for, denial_in, deposit_numbered, due_numbered, due_of_number, effect_of, epoch_day, Err, facts_told, failed_before, failed_in_turn, false, FindsNoHold, first_told, Full, gone_refusal, hold_by, hold_told, if_any, IfErr, IfErr-weaker, IfOk-weaker, in_turn, inl, inr, inside_after, inside_as, inside_failed, inside_then, is_between, is_matter, is_rule, least_hold_in, least_read, length, Limits, live_holds, LiveHold, map, max_rules, Memory, no_days, None, none-some, none_called, of_deposit, of_z, ok_or, on_ok_weaker, option_copied, option_map, or_empty, place_is, pos, refl, role_name, rules, scope_of, SFits, slice_get, Some, state, Store, subst, sym, tables_of, target_named, target_of, then_in_turn, to_z, to_z-of_z, true, true≢false, unwrap_or, visit_on, w32, w64, ℕ, ◌↔◌, ◌∙◌, ◌∷◌, ◌≡◌, ◌≤◌, ◌≤ℤ◌}
pub use Rattle.office_access.proofs.RowsRead.{count_back, count_read, denial_read, if_kept, released_read, rule_is, same_count, some_read}
pub use Rattle.office_access.proofs.RowsTold.{first_of, found_told, none_of, office_still, ok_both, only_that, there_is, there_told, told_before}
pub use Rattle.office_access.proofs.TellsNothing.{is_inside, names_nothing, no_effect, no_least, no_matter, no_rule, no_scope}
