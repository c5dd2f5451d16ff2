-- What a reader of HTTP finds in a response. The grammar of RFC 9112, sections 2 to 5, is `httparse`'s, which reads a text in one way at most.
use Rattle.std.specs.Prelude.{◌≡◌, ℕ, List, [], ◌∷◌, ◌++◌, length, map, codes, decimal, bytes_eq, if◌then◌else◌}
use Rattle.std.specs.Char.{to_ascii_lowercase}
use Rattle.httparse.specs.Grammar.{Field, field_value, ResponseHead, ReadsResponse, status_code, reason_phrase}
use Rattle.desk_answers.specs.Statuses.{code_of, phrase_of}
use Rattle.desk_answers.specs.Responses.{Content, media_text, media_type_of, body_of}
use Rattle.desk_answers.specs.declared.status.Status.{Status}

-- a field's name and its value
abbrev pub named_value : Field → List ℕ × List ℕ
named_value field = (field.name, field_value field)

-- the text is a response of HTTP/1.1 with this status, these fields in their order, and this body
pub record IsResponse (text : List ℕ) (status : Status) (fields : List (List ℕ × List ℕ)) (body : List ℕ) : Type 0 where
  pub head : ResponseHead
  pub reads : ReadsResponse text head body
  pub version : head.minor ≡ 1
  pub code : status_code head ≡ code_of status
  pub reason : reason_phrase head.reason ≡ phrase_of status
  pub fields_are : map named_value head.fields ≡ fields

-- the fields of a response. `allow` is the field of that name, or nothing.
abbrev pub response_fields : List (List ℕ × List ℕ) → Content → List (List ℕ × List ℕ)
response_fields allow content =
    (codes "Content-Type", media_text (media_type_of content))
    ∷ (codes "Content-Length", decimal (length (body_of content)))
    ∷ (allow ++ (codes "Connection", codes "close") ∷ [])

-- the values of the fields of a name, which is in small letters: names are compared in any case (RFC 9110, section 5.1)
abbrev pub values_of : List ℕ → List (List ℕ × List ℕ) → List (List ℕ)
values_of name [] = []
values_of name (field ∷ fields) = if bytes_eq (map to_ascii_lowercase field.0) name then field.1 ∷ values_of name fields else values_of name fields
