-- What first refuses a hold or a release, and what is answered and written where nothing does, by the rows that were read.
use Rattle.office_holds.proofs.Common.{◌≡◌, ℕ, pos, negsuc, not, Bool, true, false, List, [], ◌∷◌, Option, Some, None, option_map, unwrap_or, refl, sym, ap, ◌∙◌, if◌then◌else◌, epoch_day, ◌>>=◌, answer_if, Refusal, HoldRow, Tables, has_collection, hold_numbered, with_hold, with_released, held_deposit, Visit, denial_in, target_of, allowed_rows, counted_over, new_hold, first_told, full_of_holds, highest_hold, hold_denials, hold_refusals, number_after, of_hold, refusal, release_denial, release_denial_on, released_refusal, none_first, denial_of_name, hold_request, is_there_in, name_denial, subject_of}
use Rattle.std.specs.Borrow.{MutBor}
use Rattle.std.proofs.lemmas.Option.{same_Some}
use Rattle.sqlite.specs.Held.{Held, state}
use Rattle.sqlite.specs.Store.{Ghosts}
use Rattle.office_core.specs.declared.action.Action.{Action}
use Rattle.office_core.specs.declared.action.Action.TheVariants as acts
use Rattle.office_core.specs.declared.answer.Answer.TheVariants as answers
use Rattle.office_core.specs.declared.refusal.Refusal.TheVariants.{NoSuch}
use Rattle.office_core.specs.declared.refusal.Subject.TheVariants as subjects
use Rattle.office_core.specs.declared.request.Request.TheVariants as requests
use Rattle.office_contents.specs.Tables.{tables_of}
use Rattle.office_history.specs.Histories.{Target, OnDeposit, OnCollection, OnClass}
use Rattle.office_by_rows.specs.Answers.{allowed_answer}

-- the tables before a call, by the connection that it was given
abbrev pub tables_before : {S : Type 0} → Ghosts S → MutBor (Held S) → Tables
tables_before g conn = tables_of (state g conn.now).now

-- one that is told is alone
pub alone : (why : Option Refusal) → first_told (Some why ∷ []) ≡ Some why
alone None = refl
alone (Some why) = refl

-- a refusal that is told comes before that it is missing, or the rules are asked
missing_or : (there : Bool) (denial : Option (Option Refusal)) (missing : Refusal) (said : Option (Option Refusal)) → (if there then option_map Some denial else Some None) ≡ Some said
    → first_told (Some (answer_if (not there) missing) ∷ denial ∷ []) ≡ Some (unwrap_or said (Some missing))
missing_or false denial missing said e = ap (option_map (λ o. unwrap_or o (Some missing))) e
missing_or true None missing said e = absurd cc
missing_or true (Some why) missing said e = alone why ∙ ap (option_map (λ o. unwrap_or o (Some missing))) e

asked_there : (there : Bool) (denial : Option (Option Refusal)) (why : Option Refusal) → (if there then option_map Some denial else Some None) ≡ Some (Some why) → (if there then denial else None) ≡ Some why
asked_there false denial why e = absurd cc
asked_there true None why e = absurd cc
asked_there true (Some x) why e = same_Some _ _ e

module _ (t : Tables) (visit : Visit) where
  -- ---- the rules, asked by the name alone

  pub no_name : (action : Action) (target : Target) → false ≡ is_there_in t target → name_denial t visit action target ≡ Some None
  no_name action target none = ap (λ b. if b then option_map Some (denial_of_name t visit action target) else Some None) (sym none)

  pub of_name : (action : Action) (target : Target) (why : Option Refusal) → true ≡ is_there_in t target → denial_of_name t visit action target ≡ Some why → name_denial t visit action target ≡ Some (Some why)
  of_name action target why some is = ap (λ b. if b then option_map Some (denial_of_name t visit action target) else Some None) (sym some) ∙ ap (option_map Some) is

  -- ---- a hold

  -- on a collection or a class
  pub name_denied : (target : Target) (said : Option (Option Refusal)) → held_deposit target ≡ None → name_denial t visit acts.Hold target ≡ Some said → first_told (hold_denials t visit target) ≡ Some (unwrap_or said (Some (NoSuch (subject_of target))))
  name_denied (OnDeposit n) said named e = absurd cc
  name_denied (OnCollection name) said named e = missing_or (has_collection name t) (denial_in t visit acts.Hold (Some name) None) (NoSuch subjects.Collection) said e
  name_denied (OnClass name) said named e = missing_or (is_there_in t (OnClass name)) (denial_in t visit acts.Hold None (Some name)) (NoSuch subjects.Class) said e

  -- where nothing comes before that the office is full
  pub full_first : (target : Target) (full : Option Refusal) → first_told (hold_denials t visit target) ≡ Some None → full_of_holds t ≡ Some full → first_told (hold_refusals t visit target) ≡ Some full
  full_first target full none is = none_first (hold_denials t visit target) (full_of_holds t ∷ []) none ∙ ap (λ o. first_told (o ∷ [])) is ∙ alone full

  -- the request for a hold meets what refuses a hold of its target
  pub hold_refused : (target : Target) (matter : List ℕ) → refusal t visit (hold_request target matter) ≡ first_told (hold_refusals t visit target)
  hold_refused (OnDeposit n) matter = refl
  hold_refused _ matter = refl

  -- where the next number is known
  pub hold_answered : (target : Target) (matter : List ℕ) (k : ℕ) → number_after (highest_hold t) ≡ Some k → allowed_answer t visit (hold_request target matter) ≡ Some (answers.HoldPlaced k)
  hold_answered (OnDeposit n) matter k is = ap (option_map answers.HoldPlaced) is
  hold_answered _ matter k is = ap (option_map answers.HoldPlaced) is

  pub hold_rows : (target : Target) (matter : List ℕ) (k : ℕ) → number_after (highest_hold t) ≡ Some k
      → counted_over target (pos 1) (with_hold (new_hold k target matter visit.day) t) ≡ allowed_rows t visit (hold_request target matter)
  hold_rows (OnDeposit n) matter k is = ap (λ o. o >>= λ k. counted_over (OnDeposit n) (pos 1) (with_hold (new_hold k (OnDeposit n) matter visit.day) t)) (sym is)
  hold_rows target matter k is = ap (λ o. o >>= λ k. counted_over target (pos 1) (with_hold (new_hold k target matter visit.day) t)) (sym is)

  -- ---- a release

  pub name_released : (target : Target) (why : Option Refusal) → held_deposit target ≡ None → name_denial t visit acts.Release target ≡ Some (Some why) → release_denial_on t visit target ≡ Some why
  name_released (OnDeposit n) why named e = absurd cc
  name_released (OnCollection name) why named e = asked_there (has_collection name t) (denial_in t visit acts.Release (Some name) None) why e
  name_released (OnClass name) why named e = asked_there (is_there_in t (OnClass name)) (denial_in t visit acts.Release None (Some name)) why e

  module _ (k : ℕ) where
    pub no_hold : hold_numbered (pos k) t.holds ≡ None → refusal t visit (requests.Release k) ≡ Some (Some (NoSuch subjects.Hold))
    no_hold none = ap (λ o. first_told (of_hold o (λ row. release_denial t visit row ∷ released_refusal row ∷ []))) none

    module _ (row : HoldRow) (target : Target) (there : hold_numbered (pos k) t.holds ≡ Some row) (named : target_of row ≡ Some target) where
      pub release_refused : (denied why : Option Refusal) → release_denial_on t visit target ≡ Some denied → first_told (Some denied ∷ released_refusal row ∷ []) ≡ Some why → refusal t visit (requests.Release k) ≡ Some why
      release_refused denied why is first =
          ap (λ o. first_told (of_hold o (λ row. release_denial t visit row ∷ released_refusal row ∷ []))) there
          ∙ ap (λ o. first_told ((o >>= release_denial_on t visit) ∷ released_refusal row ∷ [])) named
          ∙ ap (λ o. first_told (o ∷ released_refusal row ∷ [])) is
          ∙ first

      pub released_rows : counted_over target (negsuc 0) (with_released (pos k) (epoch_day visit.day) t) ≡ allowed_rows t visit (requests.Release k)
      released_rows =
          ap (λ o. o >>= λ on. counted_over on (negsuc 0) (with_released (pos k) (epoch_day visit.day) t)) (sym named)
          ∙ ap (λ o. o >>= λ (found : HoldRow). target_of found >>= λ on. counted_over on (negsuc 0) (with_released (pos k) (epoch_day visit.day) t)) (sym there)
