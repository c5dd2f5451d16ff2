-- The greatest lengths and numbers that the office takes.
use Rattle.std.specs.Prelude.{ℕ}

-- the bytes of a name, of an accession number and of a matter
abbrev pub max_name : ℕ
max_name = 40

abbrev pub max_accession : ℕ
max_accession = 64

abbrev pub max_matter : ℕ
max_matter = 200

-- the rules and the callers of a policy
abbrev pub max_rules : ℕ
max_rules = 200

abbrev pub max_callers : ℕ
max_callers = 1_000

-- the years for which a class keeps its deposits
abbrev pub max_years : ℕ
max_years = 200
