-- What the plain office does, item by item, and that it is a run.
use Rattle.test_plain.proofs.Common.{◌≡◌, ℕ, append-nil, ◌≤◌, ◌+◌, ◌<◌, List, [], ◌∷◌, ◌++◌, length, drop, get_or, sym, ap, ◌∙◌, subst, refl, inl, inr, append_assoc, drop_all, drop_more, Answer, Result, OnOk, History, Installed, with_changes, Item, Run, RunFailing, StepFailing, IsLegal, install, IsWantOfMemory}
use Rattle.std.specs.Prelude.{Ok, Err, OnErr}
use Rattle.office_core.specs.Policies.{PolicyValue, IsPolicy}

-- a run that memory alone fails is a run
pub run_of : (items : List Item) (given : List Answer) (h next : History) → RunFailing IsWantOfMemory h items given next → Run h items given next
run_of [] [] h next all = all
run_of [] (g ∷ given) h next all = absurd all
run_of (item ∷ items) [] h next all = absurd all
run_of (item ∷ items) (g ∷ given) h next (mid, inl failed, rest) = (mid, inl (rw failed.0 tt, failed.1), run_of items given mid next rest)
run_of (item ∷ items) (g ∷ given) h next (mid, inr served, rest) = (mid, inr served, run_of items given mid next rest)

-- items that were served up to one, which is served, and those after it
pub run_on : (first h mid last : History) (items : List Item) (i : ℕ) (item : Item) (so_far more : List Answer) (given : Answer)
    → i < length items → item ≡ get_or items i item → StepFailing IsWantOfMemory h item given mid
    → ((rest : List Answer) (end : History) → RunFailing IsWantOfMemory h (drop i items) rest end → RunFailing IsWantOfMemory first items (so_far ++ rest) end)
    → RunFailing IsWantOfMemory mid (drop (i + 1) items) more last → RunFailing IsWantOfMemory first items ((so_far ++ given ∷ []) ++ more) last
run_on first h mid last items i item so_far more given within is served begun rest =
    let here : drop i items ≡ item ∷ drop (i + 1) items = drop_more items i item within ∙ ap (λ (x : Item). x ∷ drop (i + 1) items) (sym is) in
    let P : List Item → Type 0 = λ left. RunFailing IsWantOfMemory h left (given ∷ more) last in
    let on : RunFailing IsWantOfMemory h (drop i items) (given ∷ more) last = subst P (sym here) (mid, served, rest) in
    let Q : List Answer → Type 0 = λ all. RunFailing IsWantOfMemory first items all last in
    subst Q (sym (append_assoc so_far (given ∷ []) more)) (begun (given ∷ more) last on)

-- items that were served up to the end
pub run_end : (first last : History) (items : List Item) (i : ℕ) (answers : List Answer)
    → length items ≤ i
    → ((rest : List Answer) (end : History) → RunFailing IsWantOfMemory last (drop i items) rest end → RunFailing IsWantOfMemory first items (answers ++ rest) end)
    → RunFailing IsWantOfMemory first items answers last
run_end first last items i answers past begun =
    let P : List Item → Type 0 = λ left. RunFailing IsWantOfMemory last left [] last in
    let Q : List Answer → Type 0 = λ all. RunFailing IsWantOfMemory first items all last in
    subst Q (append-nil answers) (begun [] last (subst P (sym (drop_all i items past)) refl))

-- an install keeps a history legal, and so does one that failed
pub install_legal : {E : Type 0} (h next : History) (policy : PolicyValue) (r : Result (Unit {0}) E) → IsPolicy policy
    → OnOk r (next ≡ with_changes h (Installed policy ∷ [])) → OnErr r (next ≡ h) → IsLegal h → IsLegal next
install_legal h next policy (Ok x) names installed failed legal = subst IsLegal (sym installed) (install h policy names legal)
install_legal h next policy (Err e) names installed failed legal = subst IsLegal (sym failed) legal
