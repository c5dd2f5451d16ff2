-- What a path names, and how its path is spelled. RFC 3986, section 3.3, has what a path is; these paths, and that nothing
-- in them is decoded, are Depot's own rule.
use Rattle.std.specs.Prelude.{◌≡◌, ◌<◌, ℕ, List, ◌++◌, length, codes, decimal}
use Rattle.office_core.specs.Names.{IsName}
use Rattle.desk_routes.specs.declared.resource.PathPattern.{PathPattern}
use Rattle.desk_routes.specs.declared.resource.PathPattern.TheVariants as patterns
use Rattle.desk_routes.specs.declared.resource.Resource.{Resource}
use Rattle.desk_routes.specs.declared.resource.Resource.TheVariants.{Class, Collection, Deposits, Deposit, HoldsOfDeposit, Bag, File, Audit, Holds, Hold, Due}

abbrev pub path_of : Resource → List ℕ
path_of (Class name) = codes "/classes/" ++ name
path_of (Collection name) = codes "/collections/" ++ name
path_of Deposits = codes "/deposits"
path_of (Deposit number) = codes "/deposits/" ++ decimal number
path_of (HoldsOfDeposit number) = codes "/deposits/" ++ (decimal number ++ codes "/holds")
path_of (Bag number) = codes "/deposits/" ++ (decimal number ++ codes "/bag")
path_of (File number path) = codes "/deposits/" ++ (decimal number ++ (codes "/files/" ++ path))
path_of (Audit number) = codes "/deposits/" ++ (decimal number ++ codes "/audit")
path_of Holds = codes "/holds"
path_of (Hold number) = codes "/holds/" ++ decimal number
path_of Due = codes "/due"

-- a number of at most 7 digits
abbrev pub IsShortNumber : ℕ → Type 0
IsShortNumber number = number < 10_000_000

-- names are names, numbers have at most 7 digits, and the path of a file is not empty
abbrev pub IsResource : Resource → Type 0
IsResource (Class name) = IsName name
IsResource (Collection name) = IsName name
IsResource Deposits = Unit {0}
IsResource (Deposit number) = IsShortNumber number
IsResource (HoldsOfDeposit number) = IsShortNumber number
IsResource (Bag number) = IsShortNumber number
IsResource (File number path) = IsShortNumber number × (0 < length path)
IsResource (Audit number) = IsShortNumber number
IsResource Holds = Unit {0}
IsResource (Hold number) = IsShortNumber number
IsResource Due = Unit {0}

-- the path is the spelling of this resource, whose parts are in their ranges
abbrev pub SpellsResource : List ℕ → Resource → Type 0
SpellsResource path resource = (path ≡ path_of resource) × IsResource resource

abbrev pub pattern_of : Resource → PathPattern
pattern_of (Class name) = patterns.Class
pattern_of (Collection name) = patterns.Collection
pattern_of Deposits = patterns.Deposits
pattern_of (Deposit number) = patterns.Deposit
pattern_of (HoldsOfDeposit number) = patterns.HoldsOfDeposit
pattern_of (Bag number) = patterns.Bag
pattern_of (File number path) = patterns.File
pattern_of (Audit number) = patterns.Audit
pattern_of Holds = patterns.Holds
pattern_of (Hold number) = patterns.Hold
pattern_of Due = patterns.Due
