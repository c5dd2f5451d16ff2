-- What an answer says, where it is what judging gives.
use Rattle.bag_check.proofs.Common.{◌≡◌, ◌⊎◌, inl, inr, List, refl, sym, ap, subst, ◌∙◌, Some, None, Result, Ok, Err, IfOk, IfErr, IsErrAnd, MatchResult, File, IsBag, Version, Report, Valid, report_of, Fault, FirstFault, judge, Gives, named_fault, NamesFirst, report_seen}
use Rattle.bag_check.specs.declared.fault.BagFault.{BagFault}
use Rattle.bag_check.specs.declared.fault.BagFault.TheVariants as faults
use Rattle.bag_text.specs.declared.report.BagReport.{BagReport}
use Rattle.bag_check.proofs.JudgeLaws.{judged_valid, judged_fault, valid_judged, fault_judged}
use Rattle.bag_text.proofs.CaseLemmas.{by_Option}

-- an answer that gives what judging gives, as a word over the result
abbrev pub Answered : List File → Result BagReport BagFault → Type 0
Answered bag result = Gives named_fault report_seen result (judge bag)

pub accepted_is_valid : (bag : List File) → IsBag bag → (result : Result BagReport BagFault) → Answered bag result
    → IfOk result (λ report. Valid bag report.version × (report_seen report ≡ report_of report.version bag))
accepted_is_valid bag is (Err fault) e = tt
accepted_is_valid bag is (Ok report) e =
    let found = judged_valid bag is (report_seen report) e in
    let version : found.0 ≡ report.version = sym (ap (λ (r : Report). r.version) found.2) in
    (subst (λ (v : Version). Valid bag v) version found.1, found.2 ∙ ap (λ (v : Version). report_of v bag) version)

-- an answer in the place of judging's own
given : (bag : List File) (judged : Result Report Fault) → judge bag ≡ judged → (result : Result BagReport BagFault) → Answered bag result → Gives named_fault report_seen result judged
given bag judged e result answered = subst (λ (r : Result Report Fault). Gives named_fault report_seen result r) e answered

-- no fault but that memory ran out names none
only_memory : (fault : BagFault) → named_fault fault ≡ None → fault ≡ faults.Memory
only_memory faults.Memory e = refl
only_memory _ e = absurd cc

pub valid_is_accepted : (bag : List File) → IsBag bag → (result : Result BagReport BagFault) → Answered bag result → (v : Version) → Valid bag v
    → MatchResult result (λ report. report_seen report ≡ report_of v bag) (λ fault. fault ≡ faults.Memory)
valid_is_accepted bag is (Ok report) answered v valid =
    let seen : Ok (report_of v bag) ≡ Ok (report_seen report) = given bag (Ok (report_of v bag)) (valid_judged bag is v valid) (Ok report) answered in cc
valid_is_accepted bag is (Err fault) answered v valid =
    let given = given bag (Ok (report_of v bag)) (valid_judged bag is v valid) (Err fault) answered in
    by_Option (named_fault fault) (λ names. only_memory fault names) (λ first names. let wrong = rw names at given in absurd cc)

pub first_is_refused : (bag : List File) → IsBag bag → (result : Result BagReport BagFault) → Answered bag result → (first : Fault) → FirstFault bag first
    → IsErrAnd result (λ fault. (fault ≡ faults.Memory) ⊎ (named_fault fault ≡ Some first))
first_is_refused bag is (Ok report) answered first comes =
    let seen : Err first ≡ Ok (report_seen report) = given bag (Err first) (fault_judged bag is first comes) (Ok report) answered in absurd cc
first_is_refused bag is (Err fault) answered first comes =
    let given = given bag (Err first) (fault_judged bag is first comes) (Err fault) answered in
    by_Option (named_fault fault)
    (λ names. inl (only_memory fault names))
    (λ named names. let same : first ≡ named = (let k = rw names at given in cc) in inr (names ∙ ap Some (sym same)))

pub refused_is_first : (bag : List File) → IsBag bag → (result : Result BagReport BagFault) → Answered bag result
    → IfErr result (λ fault. (fault ≡ faults.Memory) ⊎ NamesFirst bag fault)
refused_is_first bag is (Ok report) e = tt
refused_is_first bag is (Err fault) e = by_Option (named_fault fault)
    (λ names. inl (only_memory fault names))
    (λ first names. inr (first, names, judged_fault bag is first (rw names at e)))
