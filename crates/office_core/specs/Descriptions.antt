-- What a deposit is about: its collection, its class, its accession and the day on which its records were closed.
use Rattle.std.specs.Prelude.{ℕ, List}
use Rattle.office_core.specs.Days.{IsDay}
use Rattle.office_core.specs.Names.{IsName, IsAccession}
use Rattle.office_core.specs.declared.description.DescriptionOf.{DescriptionOf}

-- lent or owned, with each text as its bytes
abbrev pub Description : Type 0
Description = DescriptionOf (List ℕ) (List ℕ)

-- its names are names, its accession an accession, and its closing day a day of the office
pub record IsDescription (description : Description) : Type 0 where
  pub collection : IsName description.collection
  pub class : IsName description.class
  pub accession : IsAccession description.accession
  pub closed : IsDay description.closed
