-- What a head says of its request, and why the desk refuses it. The grammar is that of RFC 9112; the limits, the refusals and their order are Depot's own.
use Rattle.std.specs.Prelude.{◌≡◌, ◌≤◌, ◌⊎◌, ◌&&◌, ℕ, Bool, List, [], ◌∷◌, length, Option, Some, None, Result, Ok, Err, nat_le, nat_lt, if◌then◌else◌, codes}
use Rattle.std.specs.List.{list_all}
use Rattle.std.specs.Char.{is_ascii_digit}
use Rattle.std.specs.Str.Parse.{digits_value}
use Rattle.httparse.specs.Grammar.{RequestHead, ReadsRequest}
use Rattle.office_core.specs.FirstOf.{first_some, answer_if}
use Rattle.office_core.specs.Names.{is_name}
use Rattle.desk_heads.specs.Bounds.{max_fields, max_body, max_length_digits}
use Rattle.desk_heads.specs.Fields.{Occurrence, absent, once, repeated, occurrence_of, values_of}
use Rattle.desk_heads.specs.declared.refusal.HeadRefusal.{HeadRefusal}
use Rattle.desk_heads.specs.declared.refusal.HeadRefusal.TheVariants.{BadHead, Chunked, BadLength, TooLarge, TwoCallers}

-- the front, whole, is this head of HTTP/1.0 or HTTP/1.1 (RFC 9112, sections 2 to 5), with at most 64 fields
pub record SpellsHead (front : List ℕ) (head : RequestHead) : Type 0 where
  pub reads : ReadsRequest front head []
  pub few : length head.fields ≤ max_fields

abbrev pub IsHead : List ℕ → Type 0
IsHead front = (head : RequestHead) × SpellsHead front head

-- what a head says of its request: its method and its target (RFC 9112, sections 3.1 and 3.2), its caller, and its body
pub record HeadContents : Type 0 where
  pub method : List ℕ
  pub target : List ℕ
  -- the name of who asks, if the head has one
  pub caller : Option (List ℕ)
  -- how many bytes follow the head
  pub body_length : ℕ

-- how often the field of a name occurs in a head
abbrev pub occurrence_in : RequestHead → List ℕ → Occurrence
occurrence_in head name = occurrence_of (values_of name head)

-- `Transfer-Encoding` (RFC 9112, section 6.1): the desk takes no body in chunks, so it refuses the field, whatever its value
abbrev pub encoding_refusal : Occurrence → Option HeadRefusal
encoding_refusal absent = None
encoding_refusal (once value) = Some Chunked
encoding_refusal repeated = Some Chunked

-- 1 to 20 digits: RFC 9110, section 8.6, asks for one or more, and the most is Depot's own
abbrev pub is_length_text : List ℕ → Bool
is_length_text text = nat_le 1 (length text) && nat_le (length text) max_length_digits && list_all is_ascii_digit text

-- `Content-Length` (RFC 9110, section 8.6) occurs once at most, as 1 to 20 digits of a number that isn't over the limit
abbrev pub length_refusal : Occurrence → Option HeadRefusal
length_refusal absent = None
length_refusal (once text) = if is_length_text text then answer_if (nat_lt max_body (digits_value 10 text)) TooLarge else Some BadLength
length_refusal repeated = Some BadLength

-- none means no body (RFC 9112, section 6.3)
abbrev pub body_length_of : Occurrence → ℕ
body_length_of absent = 0
body_length_of (once text) = digits_value 10 text
body_length_of repeated = 0

-- `Depot-Caller`, Depot's own field, occurs once at most
abbrev pub caller_refusal : Occurrence → Option HeadRefusal
caller_refusal absent = None
caller_refusal (once text) = None
caller_refusal repeated = Some TwoCallers

-- a text that is no name is no caller: Depot's own rule
abbrev pub caller_of : Occurrence → Option (List ℕ)
caller_of absent = None
caller_of (once text) = answer_if (is_name text) text
caller_of repeated = None

-- the refusals of a head, in their order, which is Depot's own
abbrev pub head_refusals : RequestHead → List (Option HeadRefusal)
head_refusals head =
    encoding_refusal (occurrence_in head (codes "transfer-encoding"))
    ∷ length_refusal (occurrence_in head (codes "content-length"))
    ∷ caller_refusal (occurrence_in head (codes "depot-caller"))
    ∷ []

abbrev pub head_contents : RequestHead → HeadContents
head_contents head = record {
  method = head.method;
  target = head.target;
  caller = caller_of (occurrence_in head (codes "depot-caller"));
  body_length = body_length_of (occurrence_in head (codes "content-length"));
}

abbrev pub unless_refused : {A : Type 0} → Option HeadRefusal → A → Result A HeadRefusal
unless_refused None contents = Ok contents
unless_refused (Some refusal) contents = Err refusal

-- the first refusal that applies, else what the head says
unfoldable pub judgement_of : RequestHead → Result HeadContents HeadRefusal
judgement_of head = unless_refused (first_some (head_refusals head)) (head_contents head)

-- a front is no head, or it is judged as its head is
abbrev pub Judges : List ℕ → Result HeadContents HeadRefusal → Type 0
Judges front judgement = ((IsHead front → ⊥) × (judgement ≡ Err BadHead)) ⊎ ((head : RequestHead) × SpellsHead front head × (judgement ≡ judgement_of head))
