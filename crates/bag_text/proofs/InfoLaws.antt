-- What reading `bag-info.txt` promises, of what its lines give.
use Rattle.bag_text.proofs.FirstLemmas.{◌≡◌, ℕ, List, ap, ◌⊎◌, inl, inr, refl, Result, Ok, Err, IfOk, IfErr, MatchResult, InfoFault, Pair, SaysInfo, InfoFaultIs, FailsAs, Gives, info_of, named_info_fault, pairs_in, same_ok, same_err, never_both}
use Rattle.bag_text.specs.declared.bag_info.InfoFault.TheVariants.{Memory}
use Rattle.bag_text.specs.declared.bag_info.BagInfo.{BagInfo}
use Rattle.bag_text.proofs.InfoLemmas.{info_said, info_fault}

-- an answered fault is memory or the one that was read
fails : (fault : InfoFault) (read : Result (List Pair) InfoFault) → FailsAs (named_info_fault fault) read → (fault ≡ Memory) ⊎ (read ≡ Err fault)
fails Memory read e = inl refl
fails _ read e = inr e

module _ (t : List ℕ) where
  -- what is read is what the text says
  pub info_says : (r : Result BagInfo InfoFault) → Gives named_info_fault pairs_in r (info_of t) → IfOk r (λ info. SaysInfo t (pairs_in info))
  info_says (Ok info) g = (info_said t (pairs_in info)).0 g
  info_says (Err fault) g = tt

  -- what the text says is read, unless memory runs out
  pub info_reads : (r : Result BagInfo InfoFault) → Gives named_info_fault pairs_in r (info_of t) → (pairs : List Pair) → SaysInfo t pairs → MatchResult r (λ info. pairs_in info ≡ pairs) (λ fault. fault ≡ Memory)
  info_reads (Ok info) g pairs is = same_ok (pairs_in info) pairs (info_of t) g ((info_said t pairs).1 is)
  info_reads (Err fault) g pairs is = elim (fails fault (info_of t) g) [
    | inl e ↦ e
    | inr e ↦ absurd (never_both pairs fault (info_of t) ((info_said t pairs).1 is) e)
  ]

  -- a refusal names the first fault, unless memory runs out
  pub info_refused : (r : Result BagInfo InfoFault) → Gives named_info_fault pairs_in r (info_of t) → IfErr r (λ fault. (fault ≡ Memory) ⊎ InfoFaultIs t fault)
  info_refused (Ok info) g = tt
  info_refused (Err fault) g = elim (fails fault (info_of t) g) [ inl e ↦ inl e | inr e ↦ inr ((info_fault t fault).0 e) ]

  -- the first fault is the answer, unless memory runs out
  pub info_first : (r : Result BagInfo InfoFault) → Gives named_info_fault pairs_in r (info_of t) → (fault : InfoFault) → InfoFaultIs t fault → (r ≡ Err fault) ⊎ (r ≡ Err Memory)
  info_first (Ok info) g fault is = absurd (never_both (pairs_in info) fault (info_of t) g ((info_fault t fault).1 is))
  info_first (Err other) g fault is = elim (fails other (info_of t) g) [
    | inl e ↦ inr (ap (λ (f : InfoFault). Err f) e)
    | inr e ↦ inl (ap (λ (f : InfoFault). Err f) (same_err other fault (info_of t) e ((info_fault t fault).1 is)))
  ]
