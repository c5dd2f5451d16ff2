-- Where no rule of the policy has days, denials and answers are the same on every day of the office.
use Rattle.office_history.proofs.Common.{◌≡◌, ◌&&◌, List, [], ◌∷◌, Option, Some, None, is_none, ap, ℕ, if◌then◌else◌, AllByRecursion, filter_map, Date, IsDay, first_some, role_of, Question, HasNoDays, asked_on, decision_of, Action, Request, Record, Holds, DownloadBag, DownloadFile, Audit, Decision, Rule, History, policy, deposit_numbered, kept_numbers, refusal_in, denial, gone_refusal, no_file, of_deposit, record_of, of_number, is_selected, allowed_answer, answer_unless, answer, OnlyReads}
use Rattle.office_core.specs.Verdicts as deciding
use Rattle.office_core.specs.declared.action.Action.TheVariants as acts
use Rattle.office_core.specs.declared.answer.Answer.TheVariants as answers
use Rattle.office_core.specs.declared.request.Request.TheVariants.{List as ListDeposits}

-- rules that have no days decide alike on all days of the office
abbrev pub DecidesAlike : Type 0
DecidesAlike = (rules : List Rule) (asked : Question) (day other : Date) → AllByRecursion HasNoDays rules → IsDay day → IsDay other → decision_of rules (asked_on day asked) ≡ decision_of rules (asked_on other asked)

-- the caller is denied the same on both days
abbrev pub DeniesAlike : History → Date → Date → List ℕ → Type 0
DeniesAlike h day other caller = (action : Action) (collection class : Option (List ℕ)) → denial h day caller action collection class ≡ denial h other caller action collection class

pub denies_alike : DecidesAlike → (h : History) (day other : Date) → AllByRecursion HasNoDays (policy h).rules → IsDay day → IsDay other → (caller : List ℕ) → DeniesAlike h day other caller
denies_alike decides h day other none in_day in_other caller action collection class =
    ap (λ (decision : Option Decision). refusal_in (deciding.denial_verdict decision))
    (decides (policy h).rules (record { role = role_of (policy h) caller; action = action; collection = collection; class = class; day = day }) day other none in_day in_other)

pub answers_alike : (h : History) (day other : Date) (caller : List ℕ) → DeniesAlike h day other caller → (request : Request) → OnlyReads request → answer h day caller request ≡ answer h other caller request
answers_alike h day other caller same (ListDeposits collection class) reads = λ i.
    answers.List (filter_map (λ n. of_number h (λ found.
    if is_selected collection found.1.description.collection && is_selected class found.1.description.class && is_none (same acts.List (Some found.1.description.collection) (Some found.1.description.class) i)
    then Some (record_of h n found) else None) n) (kept_numbers h))
answers_alike h day other caller same (Record n) reads = λ i.
    answer_unless (first_some (of_deposit (deposit_numbered h n) (λ d. same acts.Record (Some d.description.collection) (Some d.description.class) i ∷ gone_refusal h n ∷ []))) (allowed_answer h day caller (Record n))
answers_alike h day other caller same (Holds n) reads = λ i.
    answer_unless (first_some (of_deposit (deposit_numbered h n) (λ d. same acts.Holds (Some d.description.collection) (Some d.description.class) i ∷ gone_refusal h n ∷ []))) (allowed_answer h day caller (Holds n))
answers_alike h day other caller same (DownloadBag n) reads = λ i.
    answer_unless (first_some (of_deposit (deposit_numbered h n) (λ d. same acts.Download (Some d.description.collection) (Some d.description.class) i ∷ gone_refusal h n ∷ []))) (allowed_answer h day caller (DownloadBag n))
answers_alike h day other caller same (DownloadFile n path) reads = λ i.
    answer_unless (first_some (of_deposit (deposit_numbered h n) (λ d. same acts.Download (Some d.description.collection) (Some d.description.class) i ∷ gone_refusal h n ∷ no_file d path.now ∷ []))) (allowed_answer h day caller (DownloadFile n path))
answers_alike h day other caller same (Audit n) reads = λ i.
    answer_unless (first_some (of_deposit (deposit_numbered h n) (λ d. same acts.Audit (Some d.description.collection) (Some d.description.class) i ∷ gone_refusal h n ∷ []))) (allowed_answer h day caller (Audit n))
answers_alike h day other caller same _ reads = absurd reads
