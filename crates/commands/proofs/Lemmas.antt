-- The lemmas of this crate that several proofs of its functions cite, passed on from one place. Declares nothing.
pub use Rattle.commands.proofs.CheckLemmas.{invalid_is_said, pieces, says_invalid, says_of_bag, says_unreadable, says_valid, too_long_is_said, unreadable_is_said, valid_is_said}
pub use Rattle.commands.proofs.Common.{◌++◌, [], Allow, arith, bytes_to_read, codes, decimal, Deny, Explains, inl, inr, IsRead, List, None, refl, rules, SaysOfBytes, Some, string_bytes, subst, sym, take, ℕ, ◌∙◌, ◌∷◌, ◌≡◌}
pub use Rattle.commands.proofs.ExplainLemmas.{decision_is_said, fault_is_said, missing_day_is_explained, missing_day_is_said, policy_is_explained, refusal_is_explained}
pub use Rattle.commands.proofs.KnownLemmas.{of_known}
