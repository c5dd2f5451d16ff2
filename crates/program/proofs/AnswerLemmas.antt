-- What is said is printed.
use Rattle.std.proofs.Common.{◌≡◌, ◌≢◌, ◌⊎◌, ap, inl, inr, ℕ, List, [], Option, Some, None, IfSome, Result, Ok, Err, IfErr, IfOk, MatchResult, subst, sym}
use Rattle.std.specs.Prelude.{string_bytes}
use Rattle.std.specs.declared.io.Write.{Ghosts as Writes}
use Rattle.commands.proofs.ExplainLemmas.{answers_dated}
use Rattle.commands.specs.Printing.{IsAnswer}
use Rattle.commands.specs.declared.asked.Asked.{Asked}
use Rattle.commands.specs.declared.ending.Ending.{Ending}
use Rattle.commands.specs.declared.ending.Ending.TheVariants.{Misused}
use Rattle.commands.specs.declared.outcome.Outcome.{Outcome}
use Rattle.command_line.specs.declared.use_fault.UseFault.{UseFault}
use Rattle.command_line.specs.declared.use_fault.UseFault.TheVariants as uses
use Rattle.desk_devices.specs.declared.counted.Counted.{Counted}
use Rattle.office_stores.specs.declared.done.Done.{Done}
use Rattle.program.specs.Answering.{PrintsIfAny, IsExplained, IsPrinted, IsUnanswered, printed, unanswered}
use Rattle.program.specs.Streams.{Stream, counted_seen}
use Rattle.program.specs.Telling.{Refuses, TellsOfUse}
use Rattle.program.specs.declared.stopped.Stopped.{Stopped}

pub either : {T E : Type 0} (r : Result T E) (P : T → Type 0) (Q : E → Type 0) → IfOk r P → IfErr r Q → MatchResult r P Q
either (Ok x) P Q is none = is
either (Err e) P Q none is = is

-- what is said of all that a file gives, where it is known
pub given_of : {T E : Type 0} (P : List ℕ → T → Type 0) (known : Option (List ℕ)) (r : Result T E) (x : T) → r ≡ Ok x → IfSome known (λ given. IfOk r (P given)) → IfSome known (λ given. P given x)
given_of P None r x is says = tt
given_of {T = T} {E = E} P (Some given) r x is says = subst (λ (r : Result T E). IfOk r (P given)) is says

-- an explanation that is printed answers yes or no, unless no day is named
pub explained_dated : {O : Type 0} (w : Writes O) (asked : Asked) (said : Result Outcome Stopped) (result : Result Done Stopped) (old new : Counted O) → IfOk said (IsExplained asked)
    → MatchResult said (λ outcome. IsPrinted outcome result (counted_seen w old) (counted_seen w new)) (λ stopped. (result ≡ Err stopped) × (new ≡ old))
    → IfOk result (λ done. IsAnswer done.ending ⊎ (asked.day ≡ None))
explained_dated w asked (Ok outcome) (Ok done) old new says is =
    subst (λ (ending : Ending). IsAnswer ending ⊎ (asked.day ≡ None)) (sym is.2) (answers_dated says.0 asked outcome says.1)
explained_dated w asked said (Err stopped) old new says is = tt
explained_dated w asked (Err stopped) (Ok done) old new says is = let never : Ok done ≡ Err stopped = is.0 in cc

-- a run that answers yes or no, or fails, isn't misused
pub used_dated : (ended : Result Done Stopped) (ending : Ending) (Undated : Type 0) → IfOk ended (λ done. IsAnswer done.ending ⊎ Undated)
    → (IfOk ended (λ done. IsAnswer done.ending) → ending ≢ Misused) → ending ≡ Misused → Undated
used_dated (Ok done) ending Undated (inl answer) used is = absurd (used answer is)
used_dated (Ok done) ending Undated (inr undated) used is = undated
used_dated (Err stopped) ending Undated answers used is = absurd (used tt is)

module _ {O : Type 0} (w : Writes O) (IsSaid : Outcome → Type 0) (result : Result Done Stopped) (old new : Counted O) where
  -- it is printed, or there is nothing to say
  abbrev pub Prints : Result Outcome Stopped → Type 0
  Prints said = MatchResult said (λ outcome. IsPrinted outcome result (counted_seen w old) (counted_seen w new)) (λ stopped. (result ≡ Err stopped) × (new ≡ old))

  pub answers : (said : Result Outcome Stopped) → IfOk said IsSaid → IfErr said IsUnanswered → Prints said → PrintsIfAny IsSaid result (counted_seen w old) (counted_seen w new)
  answers (Ok outcome) says none is = printed outcome says is
  answers (Err stopped) says none is = unanswered stopped none is.0 (ap (counted_seen w) is.1)

-- what is said of words that ask for nothing is a text that refuses them, or that there was no memory to read them
pub use_refused : {E : Type 0} (fault : UseFault) (was now : Stream E) (ending : Ending) → TellsOfUse fault was now ending → (text : List ℕ) × Refuses text was now ending
use_refused (uses.Use reason) was now ending told = (string_bytes reason, inl told)
use_refused uses.Memory was now ending told = ([], inr told)
