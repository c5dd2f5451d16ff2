-- Which answers tell of a change.
use Rattle.office_engine.proofs.Common.{◌≡◌, ℕ, false, List, [], Option, Some, None, refl, sym, ap, ◌∙◌, Answer, Refusal, Request, DueList, History, Change, answer_unless, changes_unless, allowed_change, answer, change, is_accepted}
use Rattle.jiff.specs.Types.{Date}
use Rattle.office_history.specs.Answers.{allowed_answer}
use Rattle.office_history.specs.Refusals.{refusal}

none_allowed : (h : History) (day : Date) (caller : List ℕ) (request : Request) → is_accepted (allowed_answer h day caller request) ≡ false → allowed_change h day request ≡ []
none_allowed h day caller DueList e = cc
none_allowed h day caller _ e = cc

unless_none : (why : Option Refusal) (given : Answer) (changes : List Change) → (is_accepted given ≡ false → changes ≡ []) → is_accepted (answer_unless why given) ≡ false → changes_unless why changes ≡ []
unless_none None given changes none e = none e
unless_none (Some why) given changes none e = refl

-- an answer that tells of no change changes nothing
pub no_change : (h : History) (day : Date) (caller : List ℕ) (request : Request) (given : Answer) → given ≡ answer h day caller request → is_accepted given ≡ false → change h day caller request ≡ []
no_change h day caller request given is e =
    unless_none (refusal h day caller request) (allowed_answer h day caller request) (allowed_change h day request) (none_allowed h day caller request) (ap is_accepted (sym is) ∙ e)
