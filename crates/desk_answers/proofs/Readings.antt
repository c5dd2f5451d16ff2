-- Responses, read by HTTP's grammar.
use Rattle.desk_answers.proofs.Common.{◌≡◌, ℕ, ◌^◌, ◌<◌, true, List, [], ◌∷◌, ◌++◌, length, map, decimal, codes, Some, refl, sym, ap, ◌∙◌, append_assoc, append-nil, lit<, lit≤, All, flat_map, list_all, decimal_is_IsNumeral, map-append, All-nil, All-cons, All-append, AllPass-from_list_all, AllPass, is_token_byte, is_value_byte, IsToken, Field, IsField, crlf, print_field, ResponseHead, print_response, code_of, phrase_of, Content, media_text, media_type_of, body_of, response_text, named_value, IsResponse, response_fields}
use Rattle.std.specs.Fmt.{digits}
use Rattle.std.proofs.lemmas.List.Concat.{flat_map-append}
use Rattle.httparse.specs.Ascii.{crlf_bytes}
use Rattle.desk_answers.specs.declared.head.MediaType.{MediaType}
use Rattle.desk_answers.specs.declared.head.MediaType.TheVariants.{Json, OctetStream}
use Rattle.desk_answers.specs.declared.status.Status.{Status}
use Rattle.desk_answers.specs.declared.status.Status.TheVariants.{Success}
use Rattle.desk_answers.proofs.Values.{IsValue, is_value, decimal_is_value, decimal_has_digits}

-- a field's line, as the desk writes it
abbrev pub line : List ℕ → List ℕ → Field
line name value = record { name = name; raw = 32 ∷ value; end = crlf }

abbrev lines_of : List Field → Content → List Field
lines_of extra content =
    line (codes "Content-Type") (media_text (media_type_of content))
    ∷ line (codes "Content-Length") (decimal (length (body_of content)))
    ∷ (extra ++ line (codes "Connection") (codes "close") ∷ [])

abbrev head_of : Status → List Field → Content → ResponseHead
head_of status extra content = record {
  blank = [];
  minor = 1;
  digits = decimal (code_of status);
  reason = Some (phrase_of status);
  line_end = crlf;
  fields = lines_of extra content;
  last = crlf;
}

-- a head's parts, from the front, and as the grammar joins them
regrouped : (version code reason end kind_name kind len_name len extra close body : List ℕ) → (version ++ ((code ++ reason) ++ ((end ++ kind_name) ++ (kind ++ ((end ++ len_name) ++ (len ++ (end ++ (extra ++ (close ++ end))))))))) ++ body
    ≡ ((((version ++ code) ++ reason) ++ end) ++ (((kind_name ++ (kind ++ end)) ++ ((len_name ++ (len ++ end)) ++ (extra ++ close))) ++ end)) ++ body
regrouped version code reason end kind_name kind len_name len extra close body = simp append_assoc

last_printed : (extra : List Field) (last : Field) → flat_map print_field (extra ++ last ∷ []) ≡ flat_map print_field extra ++ print_field last
last_printed extra last = flat_map-append print_field extra (last ∷ []) ∙ ap (λ t. flat_map print_field extra ++ t) (append-nil (print_field last))

printed : (status : Status) (extra : List Field) (content : Content) → response_text status (flat_map print_field extra) content ≡ print_response (head_of status extra content) ++ body_of content
unfolding print_response
printed status extra content =
    let close = line (codes "Connection") (codes "close") in
    let kind = media_text (media_type_of content) in
    let len = decimal (length (body_of content)) in
    regrouped (codes "HTTP/1.1 ") (decimal (code_of status)) (codes " " ++ phrase_of status) crlf_bytes (codes "Content-Type: ") kind (codes "Content-Length: ") len (flat_map print_field extra) (codes "Connection: close\r\n") (body_of content)
    ∙ ap (λ t. (codes "HTTP/1.1" ++ (32 ∷ decimal (code_of status)) ++ (32 ∷ phrase_of status) ++ crlf_bytes ++ (print_field (line (codes "Content-Type") kind) ++ (print_field (line (codes "Content-Length") len) ++ t) ++ crlf_bytes)) ++ body_of content) (sym (last_printed extra close))

-- ---- the status line

-- a code has three digits, and a phrase may follow it
record IsStatus (status : Status) : Type 0 where
  small : code_of status < 2 ^ 64
  three_digits : length (decimal (code_of status)) ≡ 3
  reason : AllPass is_value_byte (phrase_of status)

is_status : (status : Status) → code_of status < 2 ^ 64 → length (decimal (code_of status)) ≡ 3 → list_all is_value_byte (phrase_of status) ≡ true → IsStatus status
is_status status small three_digits reason = record { small = small; three_digits = three_digits; reason = AllPass-from_list_all is_value_byte (phrase_of status) reason }

each_status : (status : Status) → IsStatus status
unfolding digits
each_status Success = is_status Success (lit< tt) refl refl
each_status status = is_status status (lit< tt) refl refl

-- ---- the fields

media_is_value : (kind : MediaType) → IsValue (media_text kind)
media_is_value Json = is_value (media_text Json) refl refl refl
media_is_value OctetStream = is_value (media_text OctetStream) refl refl refl

close_is_value : IsValue (codes "close")
close_is_value = is_value (codes "close") refl refl refl

token_type : IsToken (codes "Content-Type")
unfolding is_token_byte
token_type = (lit< tt, AllPass-from_list_all is_token_byte (codes "Content-Type") refl)

token_length : IsToken (codes "Content-Length")
unfolding is_token_byte
token_length = (lit< tt, AllPass-from_list_all is_token_byte (codes "Content-Length") refl)

token_connection : IsToken (codes "Connection")
unfolding is_token_byte
token_connection = (lit< tt, AllPass-from_list_all is_token_byte (codes "Connection") refl)

pub is_line : (name value : List ℕ) → IsToken name → IsValue value → IsField (line name value)
is_line name value token is = record { name = token; raw = is.bytes }

are_lines : (extra : List Field) (content : Content) → All IsField extra → length (body_of content) < 2 ^ 64 → All IsField (lines_of extra content)
are_lines extra content are small =
    let media = media_text (media_type_of content) in
    let number = decimal (length (body_of content)) in
    let kind = line (codes "Content-Type") media in
    let len = line (codes "Content-Length") number in
    let close = line (codes "Connection") (codes "close") in
    let last = All-cons IsField close [] (is_line (codes "Connection") (codes "close") token_connection close_is_value) (All-nil IsField) in
    let following = All-append IsField extra (close ∷ []) are last in
    let more = All-cons IsField len (extra ++ close ∷ []) (is_line (codes "Content-Length") number token_length (decimal_is_value (length (body_of content)) small)) following in
    All-cons IsField kind (len ∷ (extra ++ close ∷ [])) (is_line (codes "Content-Type") media token_type (media_is_value (media_type_of content))) more

named_lines : (extra : List Field) (content : Content) → length (body_of content) < 2 ^ 64 → map named_value (lines_of extra content) ≡ response_fields (map named_value extra) content
named_lines extra content small =
    rw ((media_is_value (media_type_of content)).read, (decimal_is_value (length (body_of content)) small).read, map-append named_value extra (line (codes "Connection") (codes "close") ∷ []), close_is_value.read)

pub reading : (status : Status) (extra : List Field) (content : Content) → All IsField extra → length (body_of content) < 2 ^ 64 → IsResponse (response_text status (flat_map print_field extra) content) status (response_fields (map named_value extra) content) (body_of content)
reading status extra content are small = let is = each_status status in record {
  head = head_of status extra content;
  reads = (
    record {
      minor = lit≤ tt;
      digits = (is.three_digits, decimal_has_digits (code_of status) is.small);
      reason = is.reason;
      fields = are_lines extra content are small;
    },
    printed status extra content,
  );
  version = refl;
  code = (decimal_is_IsNumeral (code_of status) is.small).1;
  reason = refl;
  fields_are = named_lines extra content small;
}
