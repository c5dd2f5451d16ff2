-- Which requests there are: a request that is a value of the type asks only for these.
use Rattle.std.specs.Prelude.{ℕ, ◌≤◌, Option, IfSome}
use Rattle.office_core.specs.Bounds.{max_years}
use Rattle.office_core.specs.Descriptions.{IsDescription}
use Rattle.office_core.specs.Names.{IsName, IsMatter}
use Rattle.office_core.specs.declared.request.Request.{Request}
use Rattle.office_core.specs.declared.request.Request.TheVariants.{DefineClass, DefineCollection, Deposit, List as ListDeposits, Record, Holds, DownloadBag, DownloadFile, Audit, HoldDeposit, HoldCollection, HoldClass, Release, Dispose, DueList}

-- 0 to 200 years, or permanently
abbrev pub IsYears : Option ℕ → Type 0
IsYears years = IfSome years (λ count. count ≤ max_years)

-- its names are names and its matter a matter; its description and its years are in their ranges
abbrev pub IsRequest : Request → Type 0
IsRequest (DefineClass name years) = IsName name × IsYears years
IsRequest (DefineCollection name) = IsName name
IsRequest (Deposit description bag) = IsDescription description
IsRequest (ListDeposits collection class) = IfSome collection IsName × IfSome class IsName
IsRequest (HoldDeposit deposit matter) = IsMatter matter
IsRequest (HoldCollection collection matter) = IsName collection × IsMatter matter
IsRequest (HoldClass class matter) = IsName class × IsMatter matter
IsRequest (Record deposit) = Unit {0}
IsRequest (Holds deposit) = Unit {0}
IsRequest (DownloadBag deposit) = Unit {0}
IsRequest (DownloadFile deposit path) = Unit {0}
IsRequest (Audit deposit) = Unit {0}
IsRequest (Release hold) = Unit {0}
IsRequest (Dispose deposit) = Unit {0}
IsRequest DueList = Unit {0}
