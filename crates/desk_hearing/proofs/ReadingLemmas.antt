-- What a reader of a request answers, from what its steps answer.
use Rattle.desk_hearing.proofs.Common.{◌≡◌, ◌≢◌, ℕ, ◌+◌, ◌-◌, ◌<◌, ◌≤◌, inl, inr, List, ◌++◌, length, take, drop, Option, Some, None, Ok, Err, refl, sym, ap, ◌∙◌, subst, arith, Result, IfSome, Consumes, IsAtEnd, drop-take, head_at, DeskRefusal, Truncated, BadBody, HeardValue, heard_from, fault_of_head, fault_of_fill, fault_of_judging, Hears, AnswersFront, AnswersBody, OwnedRequest, JudgingFault, Announced, Question}
use Rattle.std.proofs.KnownBytes.{Consumes-trans}
use Rattle.desk_heads.specs.HeadReading.{HeadRead}
use Rattle.desk_devices.specs.declared.filling.FillFault.{FillFault}
use Rattle.desk_devices.specs.declared.filling.FillFault.TheVariants as fills
use Rattle.desk_heads.specs.declared.reading.HeadFault.{HeadFault}
use Rattle.desk_heads.specs.declared.reading.HeadFault.TheVariants as heads
use Rattle.desk_heads.specs.declared.reading.HeadBytes.{HeadBytes}
use Rattle.desk_heads.specs.declared.head_end.HeadEnd.TheVariants as ends
use Rattle.desk_hearing.specs.Reading.{HeardOf, HeardOfAll}
use Rattle.desk_hearing.specs.declared.fault.HeardFault.{HeardFault}
use Rattle.desk_hearing.specs.declared.fault.HeardFault.TheVariants.{Refused, Read, Memory}
use Rattle.desk_hearing.specs.declared.fault.JudgingFault.TheVariants as judging
use Rattle.desk_hearing.proofs.HearingLemmas.{hears_large, hears_short, hears_here, hears_cut, hears_body, heard_of_all, heard_at_end, Announces}

-- failures of the steps, at the types of their answers
abbrev pub no_head : HeadFault → Result HeadBytes HeadFault
no_head fault = Err fault

abbrev pub no_front : JudgingFault → Result Announced JudgingFault
no_front fault = Err fault

abbrev pub no_fill : FillFault → Result (Unit {0}) FillFault
no_fill fault = Err fault

abbrev pub unheard : HeardFault → Result HeardValue HeardFault
unheard fault = Err fault

-- the bytes that the reader gave, and what is heard of them, unless memory ran out
abbrev pub GivenTo : Option (List ℕ) → Option (List ℕ) → Result HeardValue HeardFault → Type 0
GivenTo old new result = result ≢ Err Memory → (given : List ℕ) × Consumes old new given × HeardOf given result

pub head_given : (fault : HeadFault) (old new : Option (List ℕ))
    → (no_head fault ≢ no_head heads.Memory → (given : List ℕ) × Consumes old new given × HeadRead given (Err fault) new) → GivenTo old new (Err (fault_of_head fault))
head_given heads.TooLarge old new h = λ remembered. let x = h (λ e. cc) in (x.0, x.1, hears_large x.0 x.2)
head_given heads.Truncated old new h = λ remembered. let x = h (λ e. cc) in (x.0, x.1, hears_short x.0 x.2.0)
head_given heads.Read old new h = λ remembered. let x = h (λ e. cc) in (x.0, x.1, hears_short x.0 x.2)
head_given heads.Memory old new h = λ remembered. absurd (remembered refl)

pub front_given : (fault : JudgingFault) (old new : Option (List ℕ)) (bytes given : List ℕ) (n : ℕ) → Consumes old new given → bytes ≡ given → head_at given ≡ ends.Found n
    → AnswersFront (take n bytes) (Err fault) → GivenTo old new (Err (fault_of_judging fault))
front_given (judging.Refused refusal) old new bytes given n c e found h = λ remembered.
    (given, c, hears_here given n (Err refusal) found (subst (λ l. AnswersFront (take n l) (Err (judging.Refused refusal))) e h (drop n given)))
front_given judging.Memory old new bytes given n c e found h = λ remembered. absurd (remembered refl)

consumed : (old middle new : Option (List ℕ)) (given more all : List ℕ) → Consumes old middle given → all ≡ given ++ more → Consumes middle new more → Consumes old new all
consumed old middle new given more all c e d = subst (Consumes old new) (sym e) (Consumes-trans old middle new given more c d)

-- what is known once the head is judged and the reader was asked for the body
pub record Filled (old new : Option (List ℕ)) (all : List ℕ) (n count : ℕ) (caller : Option (List ℕ)) (question : Question) : Type 0 where
  pub given : List ℕ
  pub more : List ℕ
  pub whole : all ≡ given ++ more
  pub consumed : Consumes old new all
  pub found : head_at given ≡ ends.Found n
  pub within : n ≤ length given
  pub announces : Announces (take n given) caller question count

pub filled : (old middle new : Option (List ℕ)) (bytes given more all : List ℕ) (n count : ℕ) (caller : Option (List ℕ)) (question : Question)
    → Consumes old middle given → bytes ≡ given → head_at given ≡ ends.Found n → n ≤ length bytes → Announces (take n bytes) caller question count
    → all ≡ bytes ++ more → Consumes middle new more → Filled old new all n count caller question
filled old middle new bytes given more all n count caller question c e found within announces whole d = record {
  given = given;
  more = more;
  whole = whole ∙ ap (λ l. l ++ more) e;
  consumed = consumed old middle new given more all c (whole ∙ ap (λ l. l ++ more) e) d;
  found = found;
  within = subst (λ l. n ≤ length l) e within;
  announces = subst (λ l. Announces (take n l) caller question count) e announces;
}

pub cut_given : (old new : Option (List ℕ)) (all : List ℕ) (n count : ℕ) (caller : Option (List ℕ)) (question : Question) → Filled old new all n count caller question → length all < n + count
    → (given : List ℕ) × Consumes old new given × Hears given (Err Truncated)
cut_given old new all n count caller question f short = (all, f.consumed, hears_cut f.given f.more all n count caller question f.whole f.found f.within f.announces short)

pub fill_given : (fault : FillFault) (old new : Option (List ℕ)) (all : List ℕ) (n count : ℕ) (caller : Option (List ℕ)) (question : Question)
    → (fault ≢ fills.Memory → Filled old new all n count caller question) → length all < n + count → GivenTo old new (Err (fault_of_fill fault))
fill_given fills.Truncated old new all n count caller question h short = λ remembered. cut_given old new all n count caller question (h (λ e. cc)) short
fill_given fills.Read old new all n count caller question h short = λ remembered. cut_given old new all n count caller question (h (λ e. cc)) short
fill_given fills.Memory old new all n count caller question h short = λ remembered. absurd (remembered refl)

pub ask_given : (fault : JudgingFault) (old new : Option (List ℕ)) (all body : List ℕ) (n count : ℕ) (caller : Option (List ℕ)) (question : Question) → Filled old new all n count caller question
    → n + count ≤ length all → body ≡ take count (drop n all) → AnswersBody question body (Err fault) → GivenTo old new (Err (fault_of_judging fault))
ask_given (judging.Refused refusal) old new all body n count caller question f long e h = λ remembered.
    let refused = subst (λ l. AnswersBody question l (Err (judging.Refused refusal))) e h in
    (all, f.consumed, hears_body f.given f.more all n count caller question (Err refusal) f.whole f.found f.within f.announces long (inr (refused.1, ap Err refused.0)))
ask_given judging.Memory old new all body n count caller question f long e h = λ remembered. absurd (remembered refl)

pub heard_given : (old new : Option (List ℕ)) (all body kept : List ℕ) (n count : ℕ) (caller : Option (List ℕ)) (question : Question) (ask : OwnedRequest) → Filled old new all n count caller question
    → n + count ≤ length all → body ≡ take count (drop n all) → kept ≡ take (n + count) all → AnswersBody question body (Ok ask)
    → GivenTo old new (Ok (heard_from caller ask (drop n kept)))
heard_given old new all body kept n count caller question ask f long e k h = λ remembered.
    let same : drop n kept ≡ take count (drop n all) = ap (drop n) k ∙ drop-take n count all in
    let asks = subst (λ l. AnswersBody question l (Ok ask)) e h in (
      all,
      f.consumed,
      hears_body f.given f.more all n count caller question _ f.whole f.found f.within f.announces long
          (inl (ask, asks, ap (λ l. Ok (heard_from caller ask l)) same)),
    )

-- ---- of all that the reader has

nothing_said : (old : Option (List ℕ)) (fault : HeardFault) → ((input : List ℕ) → HeardOfAll input (Err fault)) → IfSome old (λ input. HeardOfAll input (Err fault))
nothing_said None fault h = tt
nothing_said (Some input) fault h = h input

refused_of_all : (old new : Option (List ℕ)) (refusal : DeskRefusal) → (given : List ℕ) × Consumes old new given × Hears given (Err refusal)
    → (refusal ≡ Truncated → IsAtEnd new) → IfSome old (λ input. Hears input (Err refusal))
refused_of_all old new Truncated x end = heard_at_end old new x.0 (Err Truncated) x.1 (end refl) x.2
refused_of_all old new refusal x end = heard_of_all old new x.0 (Err refusal) x.1 x.2 (λ e. cc)

pub whole_of : (old new : Option (List ℕ)) (result : Result HeardValue HeardFault) → GivenTo old new result → (result ≡ Err (Refused Truncated) → IsAtEnd new)
    → IfSome old (λ input. HeardOfAll input result)
whole_of old new (Ok heard) h end = let x = h (λ e. cc) in heard_of_all old new x.0 (Ok heard) x.1 x.2 (λ e. cc)
whole_of old new (Err (Refused refusal)) h end = refused_of_all old new refusal (h (λ e. cc)) (λ e. end (ap (λ r. unheard (Refused r)) e))
whole_of old new (Err Read) h end = nothing_said old Read (λ input. tt)
whole_of old new (Err Memory) h end = nothing_said old Memory (λ input. tt)

-- ---- where an answer is that the input ends too early

pub head_end : (fault : HeadFault) (old new : Option (List ℕ))
    → (no_head fault ≢ no_head heads.Memory → (given : List ℕ) × Consumes old new given × HeadRead given (Err fault) new)
    → unheard (fault_of_head fault) ≡ unheard (Refused Truncated) → IsAtEnd new
head_end heads.Truncated old new h e = (h (λ m. cc)).2.1
head_end _ old new h e = absurd (cc)

pub judged_uncut : (fault : JudgingFault) → no_front fault ≢ no_front (judging.Refused Truncated) → unheard (fault_of_judging fault) ≢ unheard (Refused Truncated)
judged_uncut (judging.Refused refusal) uncut = λ e. let same : refusal ≡ Truncated = cc in uncut (ap (λ r. no_front (judging.Refused r)) same)
judged_uncut judging.Memory uncut = λ e. cc

pub fill_end : (fault : FillFault) (new : Option (List ℕ)) → (no_fill fault ≡ no_fill fills.Truncated → IsAtEnd new) → unheard (fault_of_fill fault) ≡ unheard (Refused Truncated) → IsAtEnd new
fill_end fills.Truncated new h e = h refl
fill_end fills.Read new h e = absurd (cc)
fill_end fills.Memory new h e = absurd (cc)

pub ask_uncut : (fault : JudgingFault) (question : Question) (body : List ℕ) → AnswersBody question body (Err fault) → unheard (fault_of_judging fault) ≢ unheard (Refused Truncated)
ask_uncut (judging.Refused refusal) question body h = λ e. let bad = h.0 in let wrong : BadBody ≡ Truncated = cc in cc
ask_uncut judging.Memory question body h = λ e. cc

pub part_is : (a b : List ℕ) (n count : ℕ) → a ≡ b → take ((n + count) - n) (drop n a) ≡ take count (drop n b)
part_is a b n count e = let d : (n + count) - n ≡ count = omega arith in ap (λ k. take k (drop n a)) d ∙ ap (λ l. take count (drop n l)) e

-- where memory ran out nothing is said
pub unremembered : (old : Option (List ℕ)) → IfSome old (λ input. HeardOfAll input (Err Memory))
unremembered old = nothing_said old Memory (λ input. tt)
