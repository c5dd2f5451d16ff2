-- The bytes of a response of HTTP/1.1: a status line, field lines, an empty line and the body (RFC 9112, sections 2.1, 4 and 5). Each line ends with CR LF.
-- `Content-Type`, `Content-Length`, `Allow` and `Connection` are fields of RFC 9110, sections 8.3, 8.6, 10.2.1 and 7.6.1.
use Rattle.std.specs.Prelude.{ℕ, List, ◌++◌, length, codes, decimal}
use Rattle.serde_json.specs.Data.{Data}
use Rattle.serde_json.specs.Written.{compact_text}
use Rattle.desk_answers.specs.Statuses.{status_text}
use Rattle.desk_answers.specs.declared.status.Status.{Status}
use Rattle.desk_answers.specs.declared.content.Content.{Content as CarriedContent}
use Rattle.desk_answers.specs.declared.content.Content.TheVariants as carries
use Rattle.desk_answers.specs.declared.head.MediaType.{MediaType}
use Rattle.desk_answers.specs.declared.head.MediaType.TheVariants.{Json, OctetStream}

-- what a response carries: a value in JSON, or bytes as they are
pub data Content : Type 0 where
  json : Data → Content
  octets : List ℕ → Content

abbrev pub media_text : MediaType → List ℕ
media_text Json = codes "application/json"
media_text OctetStream = codes "application/octet-stream"

abbrev pub media_type_of : Content → MediaType
media_type_of (json value) = Json
media_type_of (octets bytes) = OctetStream

-- JSON is written in its compact form, with no space between its tokens
abbrev pub body_of : Content → List ℕ
body_of (json value) = compact_text value
body_of (octets bytes) = bytes

-- what comes before the body, with the empty line. `allow` is the line of that field, or nothing.
abbrev pub head_text : Status → MediaType → ℕ → List ℕ → List ℕ
head_text status kind len allow =
    codes "HTTP/1.1 " ++ (status_text status
    ++ (codes "\r\nContent-Type: " ++ (media_text kind
    ++ (codes "\r\nContent-Length: " ++ (decimal len
    ++ (codes "\r\n" ++ (allow
    ++ codes "Connection: close\r\n\r\n")))))))

abbrev pub response_text : Status → List ℕ → Content → List ℕ
response_text status allow content = head_text status (media_type_of content) (length (body_of content)) allow ++ body_of content

-- ---- for private clauses

-- the media type and the bytes of what the code carries
abbrev pub carried_type : CarriedContent → MediaType
carried_type (carries.Json text) = Json
carried_type (carries.Octets bytes) = OctetStream

abbrev pub carried_bytes : CarriedContent → List ℕ
carried_bytes (carries.Json text) = text.items
carried_bytes (carries.Octets bytes) = bytes.now

-- the response that carries this
abbrev pub carrying_text : Status → List ℕ → CarriedContent → List ℕ
carrying_text status allow content = head_text status (carried_type content) (length (carried_bytes content)) allow ++ carried_bytes content
