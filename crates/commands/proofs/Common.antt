-- The names that several proofs of this crate cite, passed on from one place. Declares nothing.
pub use Rattle.commands.specs.Checking.{bytes_to_read, invalid, of_bag, SaysInvalid, SaysOfBag, SaysOfBytes, SaysTooLong, SaysUnreadable, SaysValid, too_long, unreadable, valid}
pub use Rattle.commands.specs.Explaining.{allowed, bad_policy_text, by_default, decision_on, denied, Explains, HasFault, IsOnDay, question_on, refused, SaysBadPolicy, SaysDayMissing, SaysDecision, SaysRule, SpellsPolicyBytes, undated, unlisted_line, WantsDay}
pub use Rattle.commands.specs.PolicyFiles.{IsPolicyRefused, IsRead}
pub use Rattle.commands.specs.declared.outcome.Outcome.{Outcome}
pub use Rattle.jiff.specs.Types.{Date}
pub use Rattle.office_core.proofs.PolicyAnswers.{read_is_spelled, refusal_is}
pub use Rattle.office_core.specs.Policies.{may_have_days, named_policy_fault, policy_of, PolicyValue}
pub use Rattle.office_core.specs.declared.policy_fault.PolicyFault.{PolicyFault}
pub use Rattle.office_core.specs.declared.rule.Effect.TheVariants.{Allow, Deny}
pub use Rattle.std.proofs.Common.{◌++◌, ◌<◌, [], ap, append_assoc, arith, codes, decimal, Err, false, IfErr, IfOk, IfSome, inl, inr, IsErr, IsUtf8, length, List, None, Ok, Option, refl, Result, rules, Some, string_bytes, subst, sym, take, unwrap_or, ℕ, ◌∙◌, ◌∷◌, ◌≡◌, ◌≢◌, ◌≤◌, ◌⊎◌}
pub use Rattle.std.specs.declared.alloc.AllocError.{AllocError}
