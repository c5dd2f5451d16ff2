-- Which requests the office refuses, and why: for each request the refusals that it may meet, in their order. The first that
-- applies is answered.
use Rattle.std.specs.Prelude.{ℕ, not, List, [], ◌∷◌, length, Option, Some, None, Result, Ok, Err, ◌++◌, option_map, option_and_then, is_none, int_lt, nat_le, if◌then◌else◌}
use Rattle.jiff.specs.Types.{Date}
use Rattle.jiff.specs.Words.{epoch_day}
use Rattle.bag_text.specs.TransferForm.{File, content_at}
use Rattle.office_core.specs.Descriptions.{Description}
use Rattle.office_core.specs.FirstOf.{first_some, answer_if}
use Rattle.office_core.specs.Policies.{role_of}
use Rattle.office_core.specs.Rules.{decision_of}
use Rattle.office_core.specs.Verdicts as deciding
use Rattle.office_core.specs.Verdicts.{is_dispose}
use Rattle.office_core.specs.declared.action.Action.{Action}
use Rattle.office_core.specs.declared.action.Action.TheVariants as acts
use Rattle.office_core.specs.declared.rule.Decision.{Decision}
use Rattle.office_core.specs.declared.facts.Facts.{Facts}
use Rattle.office_core.specs.declared.facts.Verdict.{Verdict}
use Rattle.office_core.specs.declared.facts.Verdict.TheVariants as verdicts
use Rattle.office_core.specs.declared.retention.Due.TheVariants.{On, Never}
use Rattle.office_core.specs.declared.refusal.Subject.TheVariants as subjects
use Rattle.office_core.specs.declared.refusal.Refusal.{Refusal}
use Rattle.office_core.specs.declared.refusal.Refusal.TheVariants.{NoSuch, DeniedByRule, DeniedByDefault, Gone, Taken, ClosedAhead, BadBag, Held, NotDue, Released, Full, NoFile}
use Rattle.office_core.specs.declared.request.Request.{Request}
use Rattle.office_core.specs.declared.request.Request.TheVariants.{DefineClass, DefineCollection, Deposit as MakeDeposit, List as ListDeposits, Record, Holds, DownloadBag, DownloadFile, Audit, HoldDeposit, HoldCollection, HoldClass, Release, Dispose, DueList}
use Rattle.office_history.specs.Histories.{History, Deposit, Hold, Target, OnDeposit, OnCollection, OnClass, policy, has_class, has_collection, deposits, deposit_numbered, accession_of, destruction_day, due, holds, hold_numbered, release_day, least_hold}
use Rattle.office_history.specs.Bags.{bag_of}

-- ---- the verdicts of `office_core`, as refusals

abbrev pub refusal_of : Verdict → Option Refusal
refusal_of (verdicts.DeniedByRule rule) = Some (DeniedByRule rule)
refusal_of verdicts.DeniedByDefault = Some DeniedByDefault
refusal_of (verdicts.Gone day) = Some (Gone day)
refusal_of (verdicts.Held hold) = Some (Held hold)
refusal_of (verdicts.NotDue date) = Some (NotDue (On date))
refusal_of verdicts.Permanent = Some (NotDue Never)
refusal_of verdicts.Allow = None

-- of a verdict that applies
abbrev pub refusal_in : Option Verdict → Option Refusal
refusal_in verdict = option_and_then refusal_of verdict

-- the rule that decides, by the policy that was installed last
abbrev pub deciding_rule : History → Date → List ℕ → Action → Option (List ℕ) → Option (List ℕ) → Option Decision
deciding_rule h day caller action collection class =
    decision_of (policy h).rules (record { role = role_of (policy h) caller; action = action; collection = collection; class = class; day = day })

-- asked of a deposit: of its collection and its class
abbrev pub deciding_rule_at : History → Date → List ℕ → Action → Deposit → Option Decision
deciding_rule_at h day caller action deposit = deciding_rule h day caller action (Some deposit.description.collection) (Some deposit.description.class)

-- what is known of an action on a deposit
abbrev pub facts_of : History → Date → List ℕ → Action → ℕ → Deposit → Facts
facts_of h day caller action n deposit = record {
  action = action;
  decision = deciding_rule_at h day caller action deposit;
  gone = destruction_day h n;
  hold = least_hold h n deposit;
  due = due h deposit;
}

-- ---- the refusals

-- E2: the first rule that matches denies, or none matches
abbrev pub denial : History → Date → List ℕ → Action → Option (List ℕ) → Option (List ℕ) → Option Refusal
denial h day caller action collection class = refusal_in (deciding.denial_verdict (deciding_rule h day caller action collection class))

-- asked of a deposit: of its collection and its class
abbrev pub denial_at : History → Date → List ℕ → Action → Deposit → Option Refusal
denial_at h day caller action deposit = denial h day caller action (Some deposit.description.collection) (Some deposit.description.class)

-- E1
abbrev pub no_such_class : History → List ℕ → Option Refusal
no_such_class h name = answer_if (not (has_class h name)) (NoSuch subjects.Class)

abbrev pub no_such_collection : History → List ℕ → Option Refusal
no_such_collection h name = answer_if (not (has_collection h name)) (NoSuch subjects.Collection)

-- E3: the deposit was destroyed
abbrev pub gone_refusal : History → ℕ → Option Refusal
gone_refusal h n = refusal_in (deciding.gone_verdict (destruction_day h n))

-- E4: a deposit, kept or destroyed, has the accession
abbrev pub taken_refusal : History → List ℕ → Option Refusal
taken_refusal h accession = option_map Taken (accession_of h accession)

-- E5: the closing day comes after the day of the request
abbrev pub closed_ahead_refusal : Date → Date → Option Refusal
closed_ahead_refusal day closed = answer_if (int_lt (epoch_day day) (epoch_day closed)) ClosedAhead

-- E6: the text is no transfer form, or that of a bag that isn't valid
abbrev pub bad_as : Result (List File) (List ℕ) → Option Refusal
bad_as (Ok bag) = None
bad_as (Err fault) = Some (BadBag fault)

abbrev pub bad_bag : List ℕ → Option Refusal
bad_bag text = bad_as (bag_of text)

-- E7: a live hold covers the deposit; the least number is named
abbrev pub held_refusal : History → ℕ → Deposit → Option Refusal
held_refusal h n deposit = refusal_in (deciding.hold_verdict (least_hold h n deposit))

-- E8: the day comes before the due day, or there is none
abbrev pub not_due_refusal : History → Date → Deposit → Option Refusal
not_due_refusal h day deposit = refusal_in (deciding.due_verdict day (due h deposit))

-- E9: the hold was released
abbrev pub released_refusal : History → ℕ → Option Refusal
released_refusal h k = option_map Released (release_day h k)

-- E10: as many deposits, or holds, were accepted as the office takes
abbrev pub full_of_deposits : History → Option Refusal
full_of_deposits h = answer_if (nat_le h.max_deposits (length (deposits h))) Full

abbrev pub full_of_holds : History → Option Refusal
full_of_holds h = answer_if (nat_le h.max_holds (length (holds h))) Full

-- E13: the bag has no file at the path
abbrev pub no_file : Deposit → List ℕ → Option Refusal
no_file deposit path = answer_if (is_none (content_at deposit.bag path)) NoFile

-- ---- in their order

-- E1 where there is no deposit of the number, and else these
abbrev pub of_deposit : Option (Date × Deposit) → (Deposit → List (Option Refusal)) → List (Option Refusal)
of_deposit None these = Some (NoSuch subjects.Deposit) ∷ []
of_deposit (Some found) these = these found.1

-- E1 where there is no hold of the number, and else these
abbrev pub of_hold : Option (Date × Hold) → (Hold → List (Option Refusal)) → List (Option Refusal)
of_hold None these = Some (NoSuch subjects.Hold) ∷ []
of_hold (Some found) these = these found.1

-- a release is asked of what the hold names
abbrev pub release_denial_of : History → Date → List ℕ → Option (Date × Deposit) → Option Refusal
release_denial_of h day caller None = Some (NoSuch subjects.Deposit)
release_denial_of h day caller (Some found) = denial_at h day caller acts.Release found.1

abbrev pub release_denial : History → Date → List ℕ → Target → Option Refusal
release_denial h day caller (OnDeposit n) = release_denial_of h day caller (deposit_numbered h n)
release_denial h day caller (OnCollection name) = denial h day caller acts.Release (Some name) None
release_denial h day caller (OnClass name) = denial h day caller acts.Release None (Some name)

-- what is asked of a deposit that is there: E2 and E3
abbrev pub kept_refusals : History → Date → List ℕ → Action → ℕ → Deposit → List (Option Refusal)
kept_refusals h day caller action n d = denial_at h day caller action d ∷ gone_refusal h n ∷ []

-- its disposal: E2, E3, E7 and E8
abbrev pub disposal_refusals : History → Date → List ℕ → ℕ → Deposit → List (Option Refusal)
disposal_refusals h day caller n d =
    denial_at h day caller acts.Dispose d ∷ gone_refusal h n ∷ held_refusal h n d ∷ not_due_refusal h day d ∷ []

-- either of the two, by the action
abbrev pub asked_refusals : History → Date → List ℕ → Action → ℕ → Deposit → List (Option Refusal)
asked_refusals h day caller action n d = if is_dispose action then disposal_refusals h day caller n d else kept_refusals h day caller action n d

-- a file of its bag: E2, E3 and E13
abbrev pub file_refusals : History → Date → List ℕ → ℕ → List ℕ → Deposit → List (Option Refusal)
file_refusals h day caller n path d = denial_at h day caller acts.Download d ∷ gone_refusal h n ∷ no_file d path ∷ []

-- a hold of it: E2, E3 and E10
abbrev pub hold_refusals : History → Date → List ℕ → ℕ → Deposit → List (Option Refusal)
hold_refusals h day caller n d = denial_at h day caller acts.Hold d ∷ gone_refusal h n ∷ full_of_holds h ∷ []

-- E1 and E2 of a hold of a collection
abbrev pub collection_denials : History → Date → List ℕ → List ℕ → List (Option Refusal)
collection_denials h day caller name = no_such_collection h name ∷ denial h day caller acts.Hold (Some name) None ∷ []

-- a hold of a collection: E1, E2 and E10
abbrev pub collection_hold_refusals : History → Date → List ℕ → List ℕ → List (Option Refusal)
collection_hold_refusals h day caller name = collection_denials h day caller name ++ full_of_holds h ∷ []

-- E1 and E2 of a hold of a class, which is asked with no collection
abbrev pub class_denials : History → Date → List ℕ → List ℕ → List (Option Refusal)
class_denials h day caller name = no_such_class h name ∷ denial h day caller acts.Hold None (Some name) ∷ []

-- a hold of a class: E1, E2 and E10
abbrev pub class_hold_refusals : History → Date → List ℕ → List ℕ → List (Option Refusal)
class_hold_refusals h day caller name = class_denials h day caller name ++ full_of_holds h ∷ []

-- a release: E2 and E9
abbrev pub release_refusals : History → Date → List ℕ → ℕ → Hold → List (Option Refusal)
release_refusals h day caller k hold = release_denial h day caller hold.target ∷ released_refusal h k ∷ []

-- where a bag is deposited: E1 and E2
abbrev pub filing_refusals : History → Date → List ℕ → Description → List (Option Refusal)
filing_refusals h day caller description =
    no_such_collection h description.collection
    ∷ no_such_class h description.class
    ∷ denial h day caller acts.Deposit (Some description.collection) (Some description.class)
    ∷ []

-- and what is deposited: E4, E5, E6 and E10
abbrev pub bag_refusals : History → Date → Description → List ℕ → List (Option Refusal)
bag_refusals h day description bag =
    taken_refusal h description.accession ∷ closed_ahead_refusal day description.closed ∷ bad_bag bag ∷ full_of_deposits h ∷ []

-- all refusals of a request
abbrev pub refusals : History → Date → List ℕ → Request → List (Option Refusal)
refusals h day caller (DefineClass name years) = denial h day caller acts.Class None (Some name) ∷ []
refusals h day caller (DefineCollection name) = denial h day caller acts.Collection (Some name) None ∷ []
refusals h day caller (MakeDeposit description bag) = filing_refusals h day caller description ++ bag_refusals h day description bag.now
refusals h day caller (ListDeposits collection class) = []
refusals h day caller (Record n) = of_deposit (deposit_numbered h n) (kept_refusals h day caller acts.Record n)
refusals h day caller (Holds n) = of_deposit (deposit_numbered h n) (kept_refusals h day caller acts.Holds n)
refusals h day caller (DownloadBag n) = of_deposit (deposit_numbered h n) (kept_refusals h day caller acts.Download n)
refusals h day caller (DownloadFile n path) = of_deposit (deposit_numbered h n) (file_refusals h day caller n path.now)
refusals h day caller (Audit n) = of_deposit (deposit_numbered h n) (kept_refusals h day caller acts.Audit n)
refusals h day caller (HoldDeposit n matter) = of_deposit (deposit_numbered h n) (hold_refusals h day caller n)
refusals h day caller (HoldCollection name matter) = collection_hold_refusals h day caller name
refusals h day caller (HoldClass name matter) = class_hold_refusals h day caller name
refusals h day caller (Release k) = of_hold (hold_numbered h k) (release_refusals h day caller k)
refusals h day caller (Dispose n) = of_deposit (deposit_numbered h n) (disposal_refusals h day caller n)
refusals h day caller DueList = []

-- the first refusal that applies, or none where the request is allowed
abbrev pub refusal : History → Date → List ℕ → Request → Option Refusal
refusal h day caller request = first_some (refusals h day caller request)
