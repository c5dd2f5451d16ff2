-- The laws of answers.
use Rattle.desk_answers.proofs.Common.{◌≡◌, ◌≢◌, ◌↔◌, ◌⊎◌, inl, inr, ℕ, ◌^◌, ◌<◌, ◌≤◌, List, [], ◌∷◌, length, map, decimal, codes, refl, sym, subst, ap, ◌∙◌, append_assoc, append-nil, lit<, lit≤, arith, All, flat_map, All-nil, All-cons, AllPass-from_list_all, is_token_byte, IsToken, Field, IsField, print_field, ResponseHead, ReadsResponse, Answer, Refusal, code_of, Content, json, body_of, response_text, refusal_status, status_of, content_of, IsResponse, named_value, response_fields, values_of}
use Rattle.serde_json.proofs.OnLiterals.{serde_json_on_literals}
use Rattle.httparse.proofs.GrammarLemmas.{response_unique}
use Rattle.office_core.specs.declared.answer.Answer.TheVariants as answers
use Rattle.office_core.specs.declared.refusal.Refusal.TheVariants as refusals
use Rattle.desk_routes.specs.Table.{methods_of}
use Rattle.desk_routes.specs.declared.resource.PathPattern.{PathPattern}
use Rattle.desk_routes.specs.declared.resource.PathPattern.TheVariants as patterns
use Rattle.desk_routes.specs.declared.refusal.DeskRefusal.{DeskRefusal}
use Rattle.desk_routes.specs.declared.refusal.DeskRefusal.TheVariants as desks
use Rattle.desk_answers.specs.DeskRefusals.{desk_status, desk_data, methods_text, allow_fields, lines_text}
use Rattle.desk_answers.specs.Answers.{answer_text, refusal_text}
use Rattle.desk_answers.proofs.Values.{IsValue, is_value}
use Rattle.desk_answers.proofs.Readings.{line, is_line, reading}

-- ---- responses

pub answer_reading : (answer : Answer) → length (body_of (content_of answer)) < 2 ^ 64 → IsResponse (answer_text answer) (status_of answer) (response_fields [] (content_of answer)) (body_of (content_of answer))
answer_reading answer small = reading (status_of answer) [] (content_of answer) (All-nil IsField) small

-- ---- the field `Allow`

token_allow : IsToken (codes "Allow")
unfolding is_token_byte
token_allow = (lit< tt, AllPass-from_list_all is_token_byte (codes "Allow") refl)

-- the methods of a pattern may be the value of a field
methods_value : (pattern : PathPattern) → IsValue (methods_text (methods_of pattern))
methods_value patterns.Deposits = is_value (methods_text (methods_of patterns.Deposits)) refl refl refl
methods_value pattern = is_value (methods_text (methods_of pattern)) refl refl refl

-- ---- refusals of the desk

abbrev line_of : List ℕ × List ℕ → Field
line_of field = line field.0 field.1

-- fields are read from their lines, and none of them is `Content-Length`
record AreRead (fields : List (List ℕ × List ℕ)) : Type 0 where
  lines : All IsField (map line_of fields)
  printed : flat_map print_field (map line_of fields) ≡ lines_text fields
  named : map named_value (map line_of fields) ≡ fields
  one_length : (content : Content) → values_of (codes "content-length") (response_fields fields content) ≡ decimal (length (body_of content)) ∷ []

none_are_read : AreRead []
none_are_read = record { lines = All-nil IsField; printed = refl; named = refl; one_length = λ content. refl }

allow_is_read : (pattern : PathPattern) → AreRead ((codes "Allow", methods_text (methods_of pattern)) ∷ [])
allow_is_read pattern =
    let value = methods_value pattern in
    record {
      lines = All-cons IsField (line (codes "Allow") (methods_text (methods_of pattern))) [] (is_line (codes "Allow") (methods_text (methods_of pattern)) token_allow value) (All-nil IsField);
      printed = simp (append_assoc, append-nil);
      named = rw value.read;
      one_length = λ content. refl;
    }

-- what the laws say of a refusal, and what they need
record IsAnswered (refusal : DeskRefusal) : Type 0 where
  small : length (body_of (json (desk_data refusal))) < 2 ^ 64
  read : AreRead (allow_fields refusal)
  code : 400 ≤ code_of (desk_status refusal)
  allow : (allow_fields refusal ≢ []) ↔ (code_of (desk_status refusal) ≡ 405)

without_allow : (refusal : DeskRefusal) → allow_fields refusal ≡ [] → length (body_of (json (desk_data refusal))) < 2 ^ 64 → 400 ≤ code_of (desk_status refusal) → code_of (desk_status refusal) ≢ 405 → IsAnswered refusal
without_allow refusal none small code other = record {
  small = small;
  read = subst AreRead (sym none) none_are_read;
  code = code;
  allow = (λ some. absurd (some none), λ e. absurd (other e));
}

is_answered : (refusal : DeskRefusal) → IsAnswered refusal
unfolding serde_json_on_literals
is_answered (desks.Method pattern) = record { small = lit< tt; read = allow_is_read pattern; code = lit≤ tt; allow = (λ _. refl, λ _. λ e. cc) }
is_answered refusal = without_allow refusal refl (lit< tt) (lit≤ tt) (λ e. omega arith)

pub refusal_reading : (refusal : DeskRefusal) → IsResponse (refusal_text refusal) (desk_status refusal) (response_fields (allow_fields refusal) (json (desk_data refusal))) (body_of (json (desk_data refusal)))
refusal_reading refusal =
    let status = desk_status refusal in
    let content = json (desk_data refusal) in
    let lines = map line_of (allow_fields refusal) in
    let answered = is_answered refusal in
    subst (λ fields. IsResponse (refusal_text refusal) status (response_fields fields content) (body_of content)) answered.read.named
    (subst (λ allow. IsResponse (response_text status allow content) status (response_fields (map named_value lines) content) (body_of content)) answered.read.printed
    (reading status lines content answered.read.lines answered.small))

pub desk_code : (refusal : DeskRefusal) → 400 ≤ code_of (desk_status refusal)
desk_code refusal = (is_answered refusal).code

pub allow_present : (refusal : DeskRefusal) → (allow_fields refusal ≢ []) ↔ (code_of (desk_status refusal) ≡ 405)
allow_present refusal = (is_answered refusal).allow

-- ---- lengths

-- another reading is the same
lengths_read : (text : List ℕ) (values : List (List ℕ × List ℕ)) (body : List ℕ) (first head : ResponseHead) (rest : List ℕ) → ReadsResponse text first body → map named_value first.fields ≡ values → values_of (codes "content-length") values ≡ decimal (length body) ∷ [] → ReadsResponse text head rest → values_of (codes "content-length") (map named_value head.fields) ≡ decimal (length rest) ∷ []
lengths_read text values body first head rest reads are one reads' =
    let same = response_unique text first head body rest reads reads' in
    ap (λ h. values_of (codes "content-length") (map named_value h.fields)) (sym same.0) ∙ ap (values_of (codes "content-length")) are ∙ one ∙ ap (λ r. decimal (length r) ∷ []) same.1

pub answer_length : (answer : Answer) → length (body_of (content_of answer)) < 2 ^ 64 → (head : ResponseHead) (rest : List ℕ) → ReadsResponse (answer_text answer) head rest → values_of (codes "content-length") (map named_value head.fields) ≡ decimal (length rest) ∷ []
answer_length answer small head rest reads =
    let read_so = answer_reading answer small in
    lengths_read (answer_text answer) (response_fields [] (content_of answer)) (body_of (content_of answer)) read_so.head head rest read_so.reads read_so.fields_are refl reads

pub refusal_length : (refusal : DeskRefusal) (head : ResponseHead) (rest : List ℕ) → ReadsResponse (refusal_text refusal) head rest → values_of (codes "content-length") (map named_value head.fields) ≡ decimal (length rest) ∷ []
refusal_length refusal head rest reads =
    let read_so = refusal_reading refusal in
    lengths_read (refusal_text refusal) (response_fields (allow_fields refusal) (json (desk_data refusal))) (body_of (json (desk_data refusal))) read_so.head head rest read_so.reads read_so.fields_are ((is_answered refusal).read.one_length (json (desk_data refusal))) reads

-- ---- statuses of the office

refusal_code : (refusal : Refusal) → (400 ≤ code_of (refusal_status refusal)) × (code_of (refusal_status refusal) ≢ 405)
refusal_code (refusals.NoSuch subject) = (lit≤ tt, λ e. omega arith)
refusal_code _ = (lit≤ tt, λ e. omega arith)

pub refused_code : (refusal : Refusal) → 400 ≤ code_of (refusal_status refusal)
refused_code refusal = (refusal_code refusal).0

-- the status is that of what is accepted, or the answer is a refusal
abbrev IsCoded : Answer → Type 0
IsCoded answer = ((code_of (status_of answer) ≡ 200) ⊎ (code_of (status_of answer) ≡ 201)) ⊎ ((refusal : Refusal) × (answer ≡ answers.Refused refusal))

is_coded : (answer : Answer) → IsCoded answer
is_coded (answers.Deposited deposit) = inl (inr refl)
is_coded (answers.HoldPlaced hold) = inl (inr refl)
is_coded (answers.Refused refusal) = inr (refusal, refl)
is_coded _ = inl (inl refl)

accepted_so : (answer : Answer) → IsCoded answer → ((refusal : Refusal) → answer ≢ answers.Refused refusal) → (code_of (status_of answer) ≡ 200) ⊎ (code_of (status_of answer) ≡ 201)
accepted_so answer (inl code) is_not = code
accepted_so answer (inr refused) is_not = absurd (is_not refused.0 refused.1)

pub accepted_code : (answer : Answer) → ((refusal : Refusal) → answer ≢ answers.Refused refusal) → (code_of (status_of answer) ≡ 200) ⊎ (code_of (status_of answer) ≡ 201)
accepted_code answer is_not = accepted_so answer (is_coded answer) is_not

other_so : (answer : Answer) → IsCoded answer → code_of (status_of answer) ≢ 405
other_so answer (inl (inl success)) = λ e. omega arith
other_so answer (inl (inr created)) = λ e. omega arith
other_so answer (inr refused) = subst (λ (a : Answer). code_of (status_of a) ≢ 405) (sym refused.1) (refusal_code refused.0).1

pub answer_code_is_other : (answer : Answer) → code_of (status_of answer) ≢ 405
answer_code_is_other answer = other_so answer (is_coded answer)
