-- What is said of bytes is one thing.
use Rattle.commands.proofs.Common.{◌≡◌, ℕ, ◌<◌, ◌≤◌, ◌⊎◌, inl, inr, ◌≢◌, ◌++◌, List, length, sym, ap, subst, ◌∙◌, arith, append_assoc, Some, Result, Ok, Err, IfOk, IsErr, AllocError, Outcome, SaysValid, SaysInvalid, SaysUnreadable, SaysTooLong, SaysOfBag, valid, invalid, SaysOfBytes, too_long, unreadable, of_bag}
use Rattle.bag_text.specs.TransferForm.{File, IsBag, IsFormOf, max_form, set_text}
use Rattle.bag_text.specs.TransferFaults.{FaultIs}
use Rattle.bag_text.specs.declared.declaration.Version.{Version}
use Rattle.bag_text.specs.declared.set_fault.SetFault.{SetFault}
use Rattle.bag_text.specs.declared.set_fault.SetFault.TheVariants as sets
use Rattle.bag_text.proofs.ResultLemmas.{same_ok}
use Rattle.bag_text.proofs.RefusalLemmas.{one_fault_stands, form_has_none}
use Rattle.bag_text.proofs.FormLemmas.{two_texts}
use Rattle.bag_check.specs.declared.fault.BagFault.{BagFault}
use Rattle.bag_check.specs.declared.fault.BagFault.TheVariants as faults
use Rattle.bag_text.specs.declared.report.BagReport.{BagReport}
use Rattle.bag_check.specs.Validity.{Report, Valid, report_of}
use Rattle.bag_check.specs.Faults.{Fault, FirstFault}
use Rattle.bag_check.specs.Judging.{judge}
use Rattle.bag_check.specs.Answers.{named_fault, NamesFirst, report_seen}
use Rattle.bag_check.proofs.FaultLemmas.{one_first_fault}
use Rattle.bag_check.proofs.ValidLemmas.{none_stands}
use Rattle.bag_check.proofs.JudgeLaws.{valid_judged}

abbrev Answer : Type 0
Answer = Result Outcome AllocError

-- ---- what the steps say

pub says_valid : (files : List File) (report : BagReport) (r : Answer) → Valid files report.version → report_seen report ≡ report_of report.version files
    → IfOk r (SaysValid (report_seen report)) → IfOk r (SaysOfBag files)
says_valid files report (Err e) is counts prints = tt
says_valid files report (Ok outcome) is counts prints =
    valid report.version is (subst (λ (counted : Report). SaysValid counted outcome) counts prints)

pub says_invalid : (files : List File) (fault : BagFault) (r : Answer) → (fault ≡ faults.Memory) ⊎ NamesFirst files fault
    → (fault ≡ faults.Memory → IsErr r) → IfOk r (λ outcome. (first : Fault) → named_fault fault ≡ Some first → SaysInvalid files first outcome)
    → IfOk r (SaysOfBag files)
says_invalid files fault (Err e) named memory prints = tt
says_invalid files fault (Ok outcome) (inl is) memory prints = let refused = memory is in absurd cc
says_invalid files fault (Ok outcome) (inr (first, is, comes)) memory prints = invalid first comes (prints first is)

pub says_of_bag : (bytes : List ℕ) (files : List File) (r : Answer) → length bytes ≤ max_form → IsBag files → bytes ≡ set_text files
    → IfOk r (SaysOfBag files) → IfOk r (SaysOfBytes bytes)
says_of_bag bytes files (Err e) few is form says = tt
says_of_bag bytes files (Ok outcome) few is form says = of_bag files (record { short = few; bag = is; form = form }) says

pub says_unreadable : (bytes : List ℕ) (fault : SetFault) (r : Answer) → length bytes ≤ max_form → (fault ≢ sets.Memory → FaultIs bytes fault)
    → (fault ≡ sets.Memory → IsErr r) → IfOk r (SaysUnreadable bytes fault) → IfOk r (SaysOfBytes bytes)
says_unreadable bytes fault (Err e) few is memory prints = tt
says_unreadable bytes fault (Ok outcome) few is memory prints =
    unreadable fault few (is (λ out. let refused = memory out in absurd cc)) prints

-- ---- only one thing is said

valid_here : (files : List File) (v : Version) (outcome : Outcome) → IsBag files → Valid files v → SaysOfBag files outcome
    → SaysValid (report_of v files) outcome
valid_here files v outcome is ok (valid w ok_too prints) =
    let report = same_ok (report_of w files) (report_of v files) (judge files) (valid_judged files is w ok_too) (valid_judged files is v ok) in
    subst (λ (counted : Report). SaysValid counted outcome) report prints
valid_here files v outcome is ok (invalid fault first prints) = absurd (none_stands files is v ok fault first.0)

invalid_here : (files : List File) (fault : Fault) (outcome : Outcome) → IsBag files → FirstFault files fault → SaysOfBag files outcome
    → SaysInvalid files fault outcome
invalid_here files fault outcome is first (valid w ok prints) = absurd (none_stands files is w ok fault first.0)
invalid_here files fault outcome is first (invalid other first_too prints) =
    subst (λ (f : Fault). SaysInvalid files f outcome) (one_first_fault files is other fault first_too first) prints

-- bytes are the form of one bag
one_bag : (bytes : List ℕ) (a b : List File) → IsFormOf a bytes → IsFormOf b bytes → a ≡ b
one_bag bytes a b of of_too = two_texts a b of.bag of_too.bag (sym of.form ∙ of_too.form)

never_both : (bytes : List ℕ) (files : List File) (fault : SetFault) → IsFormOf files bytes → FaultIs bytes fault → ⊥
never_both bytes files fault of is = form_has_none files fault of.bag (subst (λ (t : List ℕ). FaultIs t fault) of.form is)

pub valid_is_said : (bytes : List ℕ) (r : Answer) → IfOk r (SaysOfBytes bytes) → (files : List File) (v : Version) → IsFormOf files bytes → Valid files v
    → IfOk r (SaysValid (report_of v files))
valid_is_said bytes (Err e) says files v of ok = tt
valid_is_said bytes (Ok outcome) (too_long long prints) files v of ok = let short = of.short in absurd (omega arith)
valid_is_said bytes (Ok outcome) (unreadable fault few is prints) files v of ok = absurd (never_both bytes files fault of is)
valid_is_said bytes (Ok outcome) (of_bag found found_of says) files v of ok =
    valid_here files v outcome of.bag ok (subst (λ (bag : List File). SaysOfBag bag outcome) (one_bag bytes found files found_of of) says)

pub invalid_is_said : (bytes : List ℕ) (r : Answer) → IfOk r (SaysOfBytes bytes) → (files : List File) (fault : Fault) → IsFormOf files bytes → FirstFault files fault
    → IfOk r (SaysInvalid files fault)
invalid_is_said bytes (Err e) says files fault of first = tt
invalid_is_said bytes (Ok outcome) (too_long long prints) files fault of first = let short = of.short in absurd (omega arith)
invalid_is_said bytes (Ok outcome) (unreadable other few is prints) files fault of first = absurd (never_both bytes files other of is)
invalid_is_said bytes (Ok outcome) (of_bag found found_of says) files fault of first =
    invalid_here files fault outcome of.bag first (subst (λ (bag : List File). SaysOfBag bag outcome) (one_bag bytes found files found_of of) says)

pub unreadable_is_said : (bytes : List ℕ) (r : Answer) → IfOk r (SaysOfBytes bytes) → (fault : SetFault) → length bytes ≤ max_form → FaultIs bytes fault
    → IfOk r (SaysUnreadable bytes fault)
unreadable_is_said bytes (Err e) says fault few is = tt
unreadable_is_said bytes (Ok outcome) (too_long long prints) fault few is = absurd (omega arith)
unreadable_is_said bytes (Ok outcome) (unreadable other less is_too prints) fault few is =
    subst (λ (f : SetFault). SaysUnreadable bytes f outcome) (one_fault_stands bytes other fault is_too is) prints
unreadable_is_said bytes (Ok outcome) (of_bag files of says) fault few is = absurd (never_both bytes files fault of is)

pub too_long_is_said : (bytes : List ℕ) (r : Answer) → IfOk r (SaysOfBytes bytes) → max_form < length bytes → IfOk r SaysTooLong
too_long_is_said bytes (Err e) says long = tt
too_long_is_said bytes (Ok outcome) (too_long again prints) long = prints
too_long_is_said bytes (Ok outcome) (unreadable fault few is prints) long = absurd (omega arith)
too_long_is_said bytes (Ok outcome) (of_bag files of says) long = let short = of.short in absurd (omega arith)

-- ---- a line written piece by piece

pub pieces : (v F f B b M m end : List ℕ) → ((v ++ (F ++ f)) ++ (B ++ b)) ++ (M ++ m ++ end) ≡ v ++ F ++ f ++ B ++ b ++ M ++ m ++ end
pieces v F f B b M m end =
    sym (append_assoc ((v ++ (F ++ f)) ++ (B ++ b)) (M ++ m) end)
    ∙ ap (λ (t : List ℕ). t ++ end)
    (sym (append_assoc ((v ++ (F ++ f)) ++ (B ++ b)) M m)
    ∙ ap (λ (t : List ℕ). t ++ M ++ m) (sym (append_assoc (v ++ (F ++ f)) B b) ∙ ap (λ (t : List ℕ). t ++ B ++ b) (sym (append_assoc v F f))))
