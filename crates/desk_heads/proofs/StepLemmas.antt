-- The refusals of a head, step by step.
use Rattle.desk_heads.proofs.Common.{◌≡◌, ℕ, ◌<◌, ◌⊎◌, inl, inr, List, [], ◌∷◌, length, Bool, true, false, Option, Some, None, Ok, Err, refl, sym, ap, ◌∙◌, subst, arith, codes, Result, nat_lt, if◌then◌else◌, nat_tests, All-weaker, AllPass-from_list_all, list_all-from_AllPass, is_ascii_digit, IsAsciiDigit, digits_value, first_some, answer_if, is_name, max_body, Occurrence, once, occurrence_of, values_among, values_of, fields_of}
use Rattle.httparse.specs.Grammar.{RequestHead}
use Rattle.httparse.proofs.GrammarLemmas.{request_unique}
use Rattle.desk_heads.specs.Heads.{SpellsHead, IsHead, HeadContents, occurrence_in, encoding_refusal, length_refusal, caller_refusal, is_length_text, body_length_of, caller_of, head_contents, unless_refused, judgement_of, Judges}
use Rattle.desk_heads.specs.Steps.{IsLengthText, AppliesToHead, RefusalApplies, step_of, AppliesFirst, NamesCaller, AnnouncesBody, SaysContents}
use Rattle.desk_heads.specs.declared.refusal.HeadRefusal.{HeadRefusal}
use Rattle.desk_heads.specs.declared.refusal.HeadRefusal.TheVariants.{BadHead, Chunked, BadLength, TooLarge, TwoCallers}
use Rattle.desk_heads.proofs.DigitLemmas.{all_digits}

-- ---- the refusals of a head

abbrev encoding : RequestHead → Option HeadRefusal
encoding head = encoding_refusal (occurrence_in head (codes "transfer-encoding"))

abbrev content_length : RequestHead → Option HeadRefusal
content_length head = length_refusal (occurrence_in head (codes "content-length"))

abbrev caller : RequestHead → Option HeadRefusal
caller head = caller_refusal (occurrence_in head (codes "depot-caller"))

pub at_encoding : (head : RequestHead) (refusal : HeadRefusal) → encoding head ≡ Some refusal → judgement_of head ≡ Err refusal
unfolding judgement_of
at_encoding head refusal e = ap (λ r. unless_refused (first_some (r ∷ content_length head ∷ caller head ∷ [])) (head_contents head)) e

pub at_length : (head : RequestHead) (refusal : HeadRefusal) → encoding head ≡ None → content_length head ≡ Some refusal → judgement_of head ≡ Err refusal
unfolding judgement_of
at_length head refusal none e = ap (λ r. unless_refused (first_some (r ∷ content_length head ∷ caller head ∷ [])) (head_contents head)) none
    ∙ ap (λ r. unless_refused (first_some (r ∷ caller head ∷ [])) (head_contents head)) e

pub at_caller : (head : RequestHead) (refusal : HeadRefusal) → encoding head ≡ None → content_length head ≡ None → caller head ≡ Some refusal → judgement_of head ≡ Err refusal
unfolding judgement_of
at_caller head refusal none no_length e = ap (λ r. unless_refused (first_some (r ∷ content_length head ∷ caller head ∷ [])) (head_contents head)) none
    ∙ ap (λ r. unless_refused (first_some (r ∷ caller head ∷ [])) (head_contents head)) no_length
    ∙ ap (λ r. unless_refused (first_some (r ∷ [])) (head_contents head)) e

pub at_none : (head : RequestHead) → encoding head ≡ None → content_length head ≡ None → caller head ≡ None → judgement_of head ≡ Ok (head_contents head)
unfolding judgement_of
at_none head none no_length no_caller = ap (λ r. unless_refused (first_some (r ∷ content_length head ∷ caller head ∷ [])) (head_contents head)) none
    ∙ ap (λ r. unless_refused (first_some (r ∷ caller head ∷ [])) (head_contents head)) no_length
    ∙ ap (λ r. unless_refused (first_some (r ∷ [])) (head_contents head)) no_caller

-- ---- one head, one judgement

pub spells_unique : (front : List ℕ) (first second : RequestHead) → SpellsHead front first → SpellsHead front second → first ≡ second
spells_unique front first second a b = (request_unique front first second [] [] a.reads b.reads).0

pub one_judgement : (front : List ℕ) (first second : Result HeadContents HeadRefusal) → Judges front first → Judges front second → first ≡ second
one_judgement front first second (inl a) (inl b) = a.1 ∙ sym b.1
one_judgement front first second (inl a) (inr b) = absurd (a.0 (b.0, b.1))
one_judgement front first second (inr a) (inl b) = absurd (b.0 (a.0, a.1))
one_judgement front first second (inr a) (inr b) = a.2 ∙ ap judgement_of (spells_unique front a.0 b.0 a.1 b.1) ∙ sym b.2

-- ---- what the code found

-- what was found among the pairs of a head is what is in it
pub found : (name : List ℕ) (pairs : List (List ℕ × List ℕ)) (head : RequestHead) (o : Occurrence) → o ≡ occurrence_of (values_among name pairs) → pairs ≡ fields_of head → o ≡ occurrence_in head name
found name pairs head o e f = e ∙ ap (λ p. occurrence_of (values_among name p)) f

pub refused_encoding : (front : List ℕ) (head : RequestHead) (o : Occurrence) (refusal : HeadRefusal) → SpellsHead front head
    → o ≡ occurrence_in head (codes "transfer-encoding") → encoding_refusal o ≡ Some refusal → Judges front (Err refusal)
refused_encoding front head o refusal spells e r = inr (head, spells, sym (at_encoding head refusal (ap encoding_refusal (sym e) ∙ r)))

pub refused_length : (front : List ℕ) (head : RequestHead) (o p : Occurrence) (refusal : HeadRefusal) → SpellsHead front head
    → o ≡ occurrence_in head (codes "transfer-encoding") → encoding_refusal o ≡ None
    → p ≡ occurrence_in head (codes "content-length") → length_refusal p ≡ Some refusal → Judges front (Err refusal)
refused_length front head o p refusal spells e none f r = inr (head, spells, sym (at_length head refusal (ap encoding_refusal (sym e) ∙ none) (ap length_refusal (sym f) ∙ r)))

pub refused_caller : (front : List ℕ) (head : RequestHead) (o p q : Occurrence) (refusal : HeadRefusal) → SpellsHead front head
    → o ≡ occurrence_in head (codes "transfer-encoding") → encoding_refusal o ≡ None
    → p ≡ occurrence_in head (codes "content-length") → length_refusal p ≡ None
    → q ≡ occurrence_in head (codes "depot-caller") → caller_refusal q ≡ Some refusal → Judges front (Err refusal)
refused_caller front head o p q refusal spells e none f no_length g r =
    inr (head, spells, sym (at_caller head refusal (ap encoding_refusal (sym e) ∙ none) (ap length_refusal (sym f) ∙ no_length) (ap caller_refusal (sym g) ∙ r)))

pub taken : (front : List ℕ) (head : RequestHead) (o p q : Occurrence) (contents : HeadContents) → SpellsHead front head
    → o ≡ occurrence_in head (codes "transfer-encoding") → encoding_refusal o ≡ None
    → p ≡ occurrence_in head (codes "content-length") → length_refusal p ≡ None
    → q ≡ occurrence_in head (codes "depot-caller") → caller_refusal q ≡ None
    → contents.method ≡ head.method → contents.target ≡ head.target → contents.caller ≡ caller_of q → contents.body_length ≡ body_length_of p
    → Judges front (Ok contents)
taken front head o p q contents spells e none f no_length g no_caller method target caller count =
    let caller_is = caller ∙ ap caller_of g in
    let count_is = count ∙ ap body_length_of f in
    inr (
      head,
      spells,
      ap Ok (λ i. record { method = method i; target = target i; caller = caller_is i; body_length = count_is i })
          ∙ sym (at_none head (ap encoding_refusal (sym e) ∙ none) (ap length_refusal (sym f) ∙ no_length) (ap caller_refusal (sym g) ∙ no_caller)),
    )

-- ---- each step as a relation

ascii_digit : (c : ℕ) → is_ascii_digit c ≡ true → IsAsciiDigit c
ascii_digit c h = (grind (arith, nat_tests), grind (arith, nat_tests))

is_digit : (c : ℕ) → IsAsciiDigit c → is_ascii_digit c ≡ true
is_digit c h = grind (arith, nat_tests)

length_text : (text : List ℕ) → is_length_text text ≡ true → IsLengthText text
length_text text h = record {
  some = grind (arith, nat_tests);
  few = grind (arith, nat_tests);
  digits = All-weaker (λ c. is_ascii_digit c ≡ true) IsAsciiDigit ascii_digit text (AllPass-from_list_all is_ascii_digit text (all_digits text h));
}

is_length : (text : List ℕ) → IsLengthText text → is_length_text text ≡ true
is_length text h =
    let all = list_all-from_AllPass is_ascii_digit text (All-weaker IsAsciiDigit (λ c. is_ascii_digit c ≡ true) is_digit text h.digits) in
    let some = h.some in
    let few = h.few in
    grind (arith, nat_tests)

encoding_applies : (values : List (List ℕ)) (refusal : HeadRefusal) → encoding_refusal (occurrence_of values) ≡ Some refusal → (refusal ≡ Chunked) × (0 < length values)
encoding_applies [] refusal e = absurd (cc)
encoding_applies (value ∷ []) refusal e = (cc, omega arith)
encoding_applies (value ∷ second ∷ more) refusal e = (cc, omega arith)

applies_encoding : (values : List (List ℕ)) → 0 < length values → encoding_refusal (occurrence_of values) ≡ Some Chunked
applies_encoding [] h = absurd (omega arith)
applies_encoding (value ∷ []) h = refl
applies_encoding (value ∷ second ∷ more) h = refl

-- what `BadLength` and `TooLarge` say of the values
abbrev IsBadLength : List (List ℕ) → Type 0
IsBadLength values = (1 < length values) ⊎ ((text : List ℕ) × (values ≡ text ∷ []) × (IsLengthText text → ⊥))

abbrev IsTooLarge : List (List ℕ) → Type 0
IsTooLarge values = (text : List ℕ) × (values ≡ text ∷ []) × IsLengthText text × (max_body < digits_value 10 text)

one_length : (text : List ℕ) (refusal : HeadRefusal) → length_refusal (once text) ≡ Some refusal
    → ((refusal ≡ BadLength) × (IsLengthText text → ⊥)) ⊎ ((refusal ≡ TooLarge) × IsLengthText text × (max_body < digits_value 10 text))
one_length text refusal e = by (is_length_text text) refl (nat_lt max_body (digits_value 10 text)) refl e
  where
    by : (b : Bool) → is_length_text text ≡ b → (d : Bool) → nat_lt max_body (digits_value 10 text) ≡ d → (if b then answer_if d TooLarge else Some BadLength) ≡ Some refusal
        → ((refusal ≡ BadLength) × (IsLengthText text → ⊥)) ⊎ ((refusal ≡ TooLarge) × IsLengthText text × (max_body < digits_value 10 text))
    by true t true l e = inr (cc, length_text text t, grind (arith, nat_tests))
    by true t false l e = absurd (cc)
    by false f d l e = inl (cc, λ h. let t = is_length text h in let wrong : true ≡ false = sym t ∙ f in cc)

length_applies : (values : List (List ℕ)) (refusal : HeadRefusal) → length_refusal (occurrence_of values) ≡ Some refusal → ((refusal ≡ BadLength) × IsBadLength values) ⊎ ((refusal ≡ TooLarge) × IsTooLarge values)
length_applies [] refusal e = absurd (cc)
length_applies (text ∷ []) refusal e = elim (one_length text refusal e) [ inl bad ↦ inl (bad.0, inr (text, refl, bad.1)) | inr large ↦ inr (large.0, (text, refl, large.1, large.2)) ]
length_applies (text ∷ second ∷ more) refusal e = inl (cc, inl (omega arith))

repeated_length : (values : List (List ℕ)) → 1 < length values → length_refusal (occurrence_of values) ≡ Some BadLength
repeated_length [] h = absurd (omega arith)
repeated_length (text ∷ []) h = absurd (omega arith)
repeated_length (text ∷ second ∷ more) h = refl

bad_length : (text : List ℕ) → (IsLengthText text → ⊥) → length_refusal (once text) ≡ Some BadLength
bad_length text bad = by (is_length_text text) refl
  where
    by : (b : Bool) → is_length_text text ≡ b → (if b then answer_if (nat_lt max_body (digits_value 10 text)) TooLarge else Some BadLength) ≡ Some BadLength
    by true t = absurd (bad (length_text text t))
    by false f = refl

large_length : (text : List ℕ) → IsLengthText text → max_body < digits_value 10 text → length_refusal (once text) ≡ Some TooLarge
large_length text is large =
    let over : nat_lt max_body (digits_value 10 text) ≡ true = grind (arith, nat_tests) in
    ap (λ b. if b then answer_if (nat_lt max_body (digits_value 10 text)) TooLarge else Some BadLength) (is_length text is) ∙ ap (λ b. answer_if b TooLarge) over

applies_bad : (values : List (List ℕ)) → IsBadLength values → length_refusal (occurrence_of values) ≡ Some BadLength
applies_bad values (inl long) = repeated_length values long
applies_bad values (inr bad) = ap (λ v. length_refusal (occurrence_of v)) bad.1 ∙ bad_length bad.0 bad.2

applies_large : (values : List (List ℕ)) → IsTooLarge values → length_refusal (occurrence_of values) ≡ Some TooLarge
applies_large values h = ap (λ v. length_refusal (occurrence_of v)) h.1 ∙ large_length h.0 h.2 h.3

caller_applies : (values : List (List ℕ)) (refusal : HeadRefusal) → caller_refusal (occurrence_of values) ≡ Some refusal → (refusal ≡ TwoCallers) × (1 < length values)
caller_applies [] refusal e = absurd (cc)
caller_applies (value ∷ []) refusal e = absurd (cc)
caller_applies (value ∷ second ∷ more) refusal e = (cc, omega arith)

applies_caller : (values : List (List ℕ)) → 1 < length values → caller_refusal (occurrence_of values) ≡ Some TwoCallers
applies_caller [] h = absurd (omega arith)
applies_caller (value ∷ []) h = absurd (omega arith)
applies_caller (value ∷ second ∷ more) h = refl

-- ---- the first refusal

-- what applies to some head of the front applies to this one
of_head : (front : List ℕ) (head : RequestHead) (P : RequestHead → Type 0) → SpellsHead front head → (other : RequestHead) × SpellsHead front other × P other → P head
of_head front head P spells h = subst P (spells_unique front h.0 head h.1 spells) h.2

-- what a question of this head does not find applies to no head of the front
never : (front : List ℕ) (head : RequestHead) (refusal : HeadRefusal) (found : Option HeadRefusal) → SpellsHead front head → found ≡ None → (AppliesToHead head refusal → found ≡ Some refusal)
    → (other : RequestHead) × SpellsHead front other × AppliesToHead other refusal → ⊥
never front head refusal found spells none finds h =
    let some = finds (of_head front head (λ other. AppliesToHead other refusal) spells h) in
    let wrong : None ≡ Some refusal = sym none ∙ some in cc

before_1 : (front : List ℕ) (earlier : HeadRefusal) → step_of earlier < 1 → RefusalApplies front earlier → ⊥
before_1 front BadHead low h = omega arith
before_1 front _ low h = omega arith

-- nor does a refusal of a step before this one, where what was asked before found none
before : (front : List ℕ) (head : RequestHead) (step : ℕ) → SpellsHead front head → (2 < step → encoding head ≡ None) → (3 < step → content_length head ≡ None) → (4 < step → caller head ≡ None)
    → (earlier : HeadRefusal) → step_of earlier < step → RefusalApplies front earlier → ⊥
before front head step spells none no_length no_caller BadHead low h = h (head, spells)
before front head step spells none no_length no_caller Chunked low h = never front head Chunked (encoding head) spells (none low) (applies_encoding (values_of (codes "transfer-encoding") head)) h
before front head step spells none no_length no_caller BadLength low h = never front head BadLength (content_length head) spells (no_length low) (applies_bad (values_of (codes "content-length") head)) h
before front head step spells none no_length no_caller TooLarge low h = never front head TooLarge (content_length head) spells (no_length low) (applies_large (values_of (codes "content-length") head)) h
before front head step spells none no_length no_caller TwoCallers low h = never front head TwoCallers (caller head) spells (no_caller low) (applies_caller (values_of (codes "depot-caller") head)) h

step_is_small : (refusal : HeadRefusal) → step_of refusal < 5
step_is_small BadHead = omega arith
step_is_small _ = omega arith

none_applies : (front : List ℕ) (head : RequestHead) → SpellsHead front head → encoding head ≡ None → content_length head ≡ None → caller head ≡ None → (refusal : HeadRefusal) → RefusalApplies front refusal → ⊥
none_applies front head spells none no_length no_caller refusal h = before front head 5 spells (λ _. none) (λ _. no_length) (λ _. no_caller) refusal (step_is_small refusal) h

first_bad_head : (front : List ℕ) → (IsHead front → ⊥) → AppliesFirst front BadHead
first_bad_head front bad = record { applies = bad; first = before_1 front }

first_chunked : (front : List ℕ) (head : RequestHead) (refusal : HeadRefusal) → SpellsHead front head → encoding head ≡ Some refusal → AppliesFirst front refusal
first_chunked front head refusal spells e =
    let s = encoding_applies _ refusal e in
    subst (AppliesFirst front) (sym s.0) (record { applies = (head, spells, s.1); first = before front head 2 spells (λ l. absurd (omega arith)) (λ l. absurd (omega arith)) (λ l. absurd (omega arith)) })

first_length : (front : List ℕ) (head : RequestHead) (refusal : HeadRefusal) → SpellsHead front head → encoding head ≡ None → content_length head ≡ Some refusal → AppliesFirst front refusal
first_length front head refusal spells none e = elim (length_applies (values_of (codes "content-length") head) refusal e) [
  | inl bad ↦ subst (AppliesFirst front) (sym bad.0) (record { applies = (head, spells, bad.1); first = before front head 3 spells (λ _. none) (λ l. absurd (omega arith)) (λ l. absurd (omega arith)) })
  | inr large ↦ subst (AppliesFirst front) (sym large.0) (record { applies = (head, spells, large.1); first = before front head 3 spells (λ _. none) (λ l. absurd (omega arith)) (λ l. absurd (omega arith)) })
]

first_callers : (front : List ℕ) (head : RequestHead) (refusal : HeadRefusal) → SpellsHead front head → encoding head ≡ None → content_length head ≡ None → caller head ≡ Some refusal → AppliesFirst front refusal
first_callers front head refusal spells none no_length e =
    let s = caller_applies _ refusal e in
    subst (AppliesFirst front) (sym s.0) (record { applies = (head, spells, s.1); first = before front head 4 spells (λ _. none) (λ _. no_length) (λ l. absurd (omega arith)) })

-- at which step a head is refused
data Outcome (head : RequestHead) : Type 0 where
  at_encoding_step : (refusal : HeadRefusal) → encoding head ≡ Some refusal → Outcome head
  at_length_step : (refusal : HeadRefusal) → encoding head ≡ None → content_length head ≡ Some refusal → Outcome head
  at_caller_step : (refusal : HeadRefusal) → encoding head ≡ None → content_length head ≡ None → caller head ≡ Some refusal → Outcome head
  at_no_step : encoding head ≡ None → content_length head ≡ None → caller head ≡ None → Outcome head

outcome : (head : RequestHead) → Outcome head
outcome head = by (encoding head) refl (content_length head) refl (caller head) refl
  where
    by : (e : Option HeadRefusal) → encoding head ≡ e → (l : Option HeadRefusal) → content_length head ≡ l → (c : Option HeadRefusal) → caller head ≡ c → Outcome head
    by (Some refusal) e l f c g = at_encoding_step refusal e
    by None e (Some refusal) f c g = at_length_step refusal e f
    by None e None f (Some refusal) g = at_caller_step refusal e f g
    by None e None f None g = at_no_step e f g

head_refused : (front : List ℕ) (head : RequestHead) (refusal : HeadRefusal) → SpellsHead front head → Err refusal ≡ judgement_of head → AppliesFirst front refusal
head_refused front head refusal spells j = elim (outcome head) [
  | at_encoding_step other e ↦ (let same : Err refusal ≡ Err other = j ∙ at_encoding head other e in first_chunked front head refusal spells (cc))
  | at_length_step other e f ↦ (let same : Err refusal ≡ Err other = j ∙ at_length head other e f in first_length front head refusal spells e (cc))
  | at_caller_step other e f g ↦ (let same : Err refusal ≡ Err other = j ∙ at_caller head other e f g in first_callers front head refusal spells e f (cc))
  | at_no_step e f g ↦ absurd (let same : Err refusal ≡ Ok (head_contents head) = j ∙ at_none head e f g in cc)
]

pub refused_first : (front : List ℕ) (refusal : HeadRefusal) → Judges front (Err refusal) → AppliesFirst front refusal
refused_first front refusal (inl bad) = let e = bad.1 in let same : refusal ≡ BadHead = cc in subst (AppliesFirst front) (sym same) (first_bad_head front bad.0)
refused_first front refusal (inr h) = head_refused front h.0 refusal h.1 h.2

-- ---- and the other way round

-- what is never something is none
never_some : (found : Option HeadRefusal) → ((refusal : HeadRefusal) → found ≡ Some refusal → ⊥) → found ≡ None
never_some None never = refl
never_some (Some refusal) never = absurd (never refusal refl)

no_encoding : (front : List ℕ) (head : RequestHead) → SpellsHead front head → (RefusalApplies front Chunked → ⊥) → encoding head ≡ None
no_encoding front head spells bad = never_some (encoding head) (λ refusal e. bad (head, spells, (encoding_applies (values_of (codes "transfer-encoding") head) refusal e).1))

no_length : (front : List ℕ) (head : RequestHead) → SpellsHead front head → (RefusalApplies front BadLength → ⊥) → (RefusalApplies front TooLarge → ⊥) → content_length head ≡ None
no_length front head spells bad large = never_some (content_length head) (λ refusal e. elim (length_applies (values_of (codes "content-length") head) refusal e) [
  | inl h ↦ bad (head, spells, h.1)
  | inr h ↦ large (head, spells, h.1)
])

no_caller : (front : List ℕ) (head : RequestHead) → SpellsHead front head → (RefusalApplies front TwoCallers → ⊥) → caller head ≡ None
no_caller front head spells bad = never_some (caller head) (λ refusal e. bad (head, spells, (caller_applies (values_of (codes "depot-caller") head) refusal e).1))

pub first_refused : (front : List ℕ) (refusal : HeadRefusal) → AppliesFirst front refusal → Judges front (Err refusal)
first_refused front BadHead h = inl (h.applies, refl)
first_refused front Chunked h = let s = h.applies in inr (s.0, s.1, sym (at_encoding s.0 Chunked (applies_encoding _ s.2)))
first_refused front BadLength h = let s = h.applies in
    inr (s.0, s.1, sym (at_length s.0 BadLength (no_encoding front s.0 s.1 (h.first Chunked (omega arith))) (applies_bad _ s.2)))
first_refused front TooLarge h = let s = h.applies in
    inr (s.0, s.1, sym (at_length s.0 TooLarge (no_encoding front s.0 s.1 (h.first Chunked (omega arith))) (applies_large _ s.2)))
first_refused front TwoCallers h = let s = h.applies in
    inr (
      s.0,
      s.1,
      sym (at_caller s.0 TwoCallers (no_encoding front s.0 s.1 (h.first Chunked (omega arith)))
          (no_length front s.0 s.1 (h.first BadLength (omega arith)) (h.first TooLarge (omega arith))) (applies_caller _ s.2)),
    )

-- ---- what a head says

names_caller : (values : List (List ℕ)) → caller_refusal (occurrence_of values) ≡ None → NamesCaller values (caller_of (occurrence_of values))
names_caller [] none = λ name e is. cc
names_caller (value ∷ []) none = by (is_name value) refl
  where
    by : (b : Bool) → is_name value ≡ b → NamesCaller (value ∷ []) (answer_if b value)
    by true is = (refl, is)
    by false other = λ name e is. let same : value ≡ name = cc in let wrong : true ≡ false = sym is ∙ ap is_name (sym same) ∙ other in cc
names_caller (value ∷ second ∷ more) none = absurd (cc)

announces : (values : List (List ℕ)) → length_refusal (occurrence_of values) ≡ None → AnnouncesBody values (body_length_of (occurrence_of values))
announces [] none = inl (refl, refl)
announces (text ∷ []) none = by (is_length_text text) refl none
  where
    by : (b : Bool) → is_length_text text ≡ b → (if b then answer_if (nat_lt max_body (digits_value 10 text)) TooLarge else Some BadLength) ≡ None → AnnouncesBody (text ∷ []) (digits_value 10 text)
    by true is e = inr (text, refl, length_text text is, refl)
    by false other e = absurd (cc)
announces (text ∷ second ∷ more) none = absurd (cc)

caller_is : (values : List (List ℕ)) (said : Option (List ℕ)) → NamesCaller values said → said ≡ caller_of (occurrence_of values)
caller_is values (Some name) h = sym (ap (λ v. caller_of (occurrence_of v)) h.0 ∙ ap (λ b. answer_if b name) h.1)
caller_is [] None h = refl
caller_is (value ∷ []) None h = by (is_name value) refl
  where
    by : (b : Bool) → is_name value ≡ b → None ≡ answer_if b value
    by true is = absurd (h value refl is)
    by false other = refl
caller_is (value ∷ second ∷ more) None h = refl

body_length_is : (values : List (List ℕ)) (count : ℕ) → AnnouncesBody values count → count ≡ body_length_of (occurrence_of values)
body_length_is values count (inl none) = none.1 ∙ sym (ap (λ v. body_length_of (occurrence_of v)) none.0)
body_length_is values count (inr one) = one.3 ∙ sym (ap (λ v. body_length_of (occurrence_of v)) one.1)

head_says : (front : List ℕ) (head : RequestHead) → SpellsHead front head → content_length head ≡ None → caller head ≡ None → SaysContents front (head_contents head)
head_says front head spells f g = record {
  head = head;
  spells = spells;
  method = refl;
  target = refl;
  caller = names_caller (values_of (codes "depot-caller") head) g;
  body_length = announces (values_of (codes "content-length") head) f;
}

head_taken : (front : List ℕ) (head : RequestHead) (contents : HeadContents) → SpellsHead front head → Ok contents ≡ judgement_of head
    → SaysContents front contents × ((refusal : HeadRefusal) → RefusalApplies front refusal → ⊥)
head_taken front head contents spells j = elim (outcome head) [
  | at_encoding_step other e ↦ absurd (let same : Ok contents ≡ Err other = j ∙ at_encoding head other e in cc)
  | at_length_step other e f ↦ absurd (let same : Ok contents ≡ Err other = j ∙ at_length head other e f in cc)
  | at_caller_step other e f g ↦ absurd (let same : Ok contents ≡ Err other = j ∙ at_caller head other e f g in cc)
  | at_no_step e f g ↦ (let equal : Ok contents ≡ Ok (head_contents head) = j ∙ at_none head e f g in let same : contents ≡ head_contents head = cc in
      (subst (SaysContents front) (sym same) (head_says front head spells f g), none_applies front head spells e f g))
]

pub taken_says : (front : List ℕ) (contents : HeadContents) → Judges front (Ok contents) → SaysContents front contents × ((refusal : HeadRefusal) → RefusalApplies front refusal → ⊥)
taken_says front contents (inl bad) = absurd (let e = bad.1 in cc)
taken_says front contents (inr h) = head_taken front h.0 contents h.1 h.2

pub says_taken : (front : List ℕ) (contents : HeadContents) → SaysContents front contents → ((refusal : HeadRefusal) → RefusalApplies front refusal → ⊥) → Judges front (Ok contents)
says_taken front contents says none = taken front says.head _ _ _ contents says.spells
    refl (no_encoding front says.head says.spells (none Chunked))
    refl (no_length front says.head says.spells (none BadLength) (none TooLarge))
    refl (no_caller front says.head says.spells (none TwoCallers))
    says.method says.target (caller_is _ contents.caller says.caller) (body_length_is _ contents.body_length says.body_length)
