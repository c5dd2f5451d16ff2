-- The most that the desk takes: Depot's own limits.
use Rattle.std.specs.Prelude.{ℕ}

-- the bytes of a head
abbrev pub max_head : ℕ
max_head = 8192

-- the fields of a head
abbrev pub max_fields : ℕ
max_fields = 64

-- the bytes of a body
abbrev pub max_body : ℕ
max_body = 16_777_216

-- the digits of a content length
abbrev pub max_length_digits : ℕ
max_length_digits = 20
