use Rattle.office_core.proofs.Common.{FitsSigned, w8, w16, arith, to_z-of_z, signed_arith}
use Rattle.office_core.proofs.day.date_of.Goals as goal

pub returns-clause-only : goal.returns-clause-only
returns-clause-only c =
    let year : FitsSigned w16 c.year_of.result = omega (arith, signed_arith, c.year_of.ensures, c.requires.century, c.requires.year) in
    let month : FitsSigned w8 c.signed_byte.result = omega (arith, signed_arith, c.signed_byte.ensures, c.requires.month) in
    let day : FitsSigned w8 c.signed_byte-2.result = omega (arith, signed_arith, c.signed_byte-2.ensures, c.requires.day) in
    let only = simp to_z-of_z at c.civil_date.ensures.only in
    λ is. only (rw (c.year_of.ensures, c.signed_byte.ensures, c.signed_byte-2.ensures) is)
