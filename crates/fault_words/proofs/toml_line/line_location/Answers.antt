use Rattle.fault_words.proofs.Lemmas.{rules, ◌≡◌, ◌∙◌, None, ap, refl, parse_document, table_view, is_utf8-from_IsUtf8, line_at, line_words, no_text, no_toml, toml, no_text_test, text_is_no_toml, text_is_toml}
use Rattle.fault_words.proofs.toml_line.line_location.Goals as goal

pub returns-in-Err : goal.returns-in-Err
returns-in-Err c =
    let bytes = c.args.bytes.now in
    no_text (no_text_test bytes c.in-Err.ensures.cases.0)
    (ap line_words (c.line_at.ensures.line ∙ ap (λ place. line_at place bytes) (c.valid_up_to.ensures ∙ c.in-Err.ensures.valid_len)))

pub returns-in_default : goal.returns-in_default
returns-in_default c =
    let tree = table_view c.in_default.field-0 in
    toml (text_is_toml c.args.bytes.now c.in-Ok.text.now tree c.in-Ok.ensures.cases.0 c.in-Ok.ensures.cases.1 c.in_default.ensures.ok) refl

pub returns-in_ok-breaking_line-in-Some : goal.returns-in_ok-breaking_line-in-Some
returns-in_ok-breaking_line-in-Some c =
    let bytes = c.args.bytes.now in
    let refused : parse_document c.in-Ok.text.now ≡ None = search rules in
    no_toml c.in_ok-breaking_line-in-Some.field-0 (is_utf8-from_IsUtf8 bytes c.in-Ok.ensures.cases.1)
    (text_is_no_toml bytes c.in-Ok.text.now c.in-Ok.ensures.cases.0 c.in-Ok.ensures.cases.1 refused)
    c.in_ok-breaking_line-in-Some.ensures refl
