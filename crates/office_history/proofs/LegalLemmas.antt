-- What a bag that is accepted is, what each change of a legal history was, and that runs of items in range stay legal.
use Rattle.office_history.proofs.FirstLemmas.{◌≡◌, ℕ, List, [], ◌∷◌, ◌++◌, Result, Ok, Err, refl, sym, ap, subst, ◌∙◌, inl, inr, append-nil, File, IsBag, set_of, SetFault, Report, Valid, Answer, History, Change, with_changes, bag_of, valid_bag, if_valid, report_or_text, IsChange, IsAllowed, Item, IsItem, AreItems, Step, Run, IsLegal, step, IsSound, as_of, split_two, IsAccepted, legal_by}
use Rattle.bag_text.specs.declared.declaration.Version.{Version}
use Rattle.bag_check.specs.Faults.{Fault}
use Rattle.bag_check.specs.Judging.{judge}

-- ---- the bags

-- a text that is read is the form of a bag, and a bag that is judged so is valid
abbrev pub Reads : Type 0
Reads = (t : List ℕ) (files : List File) → set_of t ≡ Ok files → IsBag files

abbrev pub Judges : Type 0
Judges = (files : List File) (report : Report) → IsBag files → judge files ≡ Ok report → (v : Version) × Valid files v

sound_judged : Judges → (files bag : List File) (r : Result Report Fault) → IsBag files → judge files ≡ r → if_valid files (report_or_text r) ≡ Ok bag → IsSound bag
sound_judged judges files bag (Err fault) is j e = absurd cc
sound_judged judges files bag (Ok report) is j e =
    let same : files ≡ bag = cc in
    let valid = judges files report is j in
    subst IsSound same (record { bag = is; version = valid.0; valid = valid.1 })

sound_read : Reads → Judges → (text : List ℕ) (bag : List File) (r : Result (List File) SetFault) → set_of text ≡ r → valid_bag r ≡ Ok bag → IsSound bag
sound_read reads judges text bag (Err fault) s e = absurd cc
sound_read reads judges text bag (Ok files) s e = sound_judged judges files bag (judge files) (reads text files s) refl e

pub sound_bag : Reads → Judges → (text : List ℕ) (bag : List File) → bag_of text ≡ Ok bag → IsSound bag
sound_bag reads judges text bag e = sound_read reads judges text bag (set_of text) refl e

-- ---- the changes

none_last : {A : Type 0} (c : A) (more rest : List A) → [] ≡ more ++ c ∷ rest → ⊥
none_last c [] rest e = absurd cc
none_last c (y ∷ more) rest e = absurd cc

-- what the last change is, where there is one at most
one_last : {A : Type 0} (x c : A) (more rest : List A) → x ∷ [] ≡ more ++ c ∷ rest → (more ≡ []) × (x ≡ c)
one_last x c [] rest e = (refl, (let same : x ≡ c = cc in same))
one_last x c (y ∷ more) rest e = absurd (none_last c more rest cc)

-- each change of the history was in range, and allowed at its place
abbrev pub ChangesStand : History → Type 0
ChangesStand h = (before rest : List Change) (c : Change) → h.changes ≡ before ++ c ∷ rest → IsChange c × IsAllowed (as_of h before) c

pub changes_stand : (h : History) → IsLegal h → ChangesStand h
changes_stand h legal = legal_by ChangesStand (λ a b a_in b_in before rest c e. absurd (none_last c before rest e)) more h legal
  where
    more : (x : History) (made : Change) → IsLegal x → IsAccepted x made → ChangesStand x → ChangesStand (with_changes x (made ∷ []))
    more x made was ok stand before rest c e =
        elim (split_two x.changes (made ∷ []) before c rest e) [
          | inl found ↦ stand before found.0 c found.1
          | inr found ↦
              let last = one_last made c found.0 rest found.2 in
              let place : before ≡ x.changes = found.1 ∙ ap (λ (more : List Change). x.changes ++ more) last.0 ∙ append-nil x.changes in
              subst (λ (d : Change). IsChange d × IsAllowed (as_of x before) d) last.1
              (subst (λ (changes : List Change). IsChange made × IsAllowed (as_of x changes) made) (sym place) ok)
        ]

-- ---- runs

step_legal : (h next : History) (item : Item) (given : Answer) → IsItem item → IsLegal h → Step h item given next → IsLegal next
step_legal h next item given ranged legal (inl failed) = subst IsLegal (sym failed.1) legal
step_legal h next item given ranged legal (inr served) = subst IsLegal (sym served.1) (step h item.0 item.1.now item.2 ranged.0 ranged.1 legal)

pub run_legal : (items : List Item) (given : List Answer) (h next : History) → AreItems items → IsLegal h → Run h items given next → IsLegal next
run_legal [] [] h next ranged legal r = subst IsLegal (sym r) legal
run_legal (item ∷ items) (g ∷ given) h next ranged legal r = run_legal items given r.0 next ranged.1 (step_legal h r.0 item g ranged.0 legal r.1) r.2
run_legal _ _ h next ranged legal r = absurd r
