-- Which refusals apply to a front, each by itself, and what a head says, as relations. The rules are those of `Heads`; the order of the steps is Depot's own.
use Rattle.std.specs.Prelude.{◌≡◌, ◌≤◌, ◌<◌, ◌⊎◌, ℕ, List, [], ◌∷◌, length, Option, Some, None, codes, All}
use Rattle.std.specs.Char.{IsAsciiDigit}
use Rattle.std.specs.Str.Parse.{digits_value}
use Rattle.httparse.specs.Grammar.{RequestHead}
use Rattle.office_core.specs.Names.{IsName}
use Rattle.desk_heads.specs.Bounds.{max_body, max_length_digits}
use Rattle.desk_heads.specs.Fields.{values_of}
use Rattle.desk_heads.specs.Heads.{SpellsHead, IsHead, HeadContents}
use Rattle.desk_heads.specs.declared.refusal.HeadRefusal.{HeadRefusal}
use Rattle.desk_heads.specs.declared.refusal.HeadRefusal.TheVariants.{BadHead, Chunked, BadLength, TooLarge, TwoCallers}

-- a content length is written in 1 to 20 digits
pub record IsLengthText (text : List ℕ) : Type 0 where
  pub some : 1 ≤ length text
  pub few : length text ≤ max_length_digits
  pub digits : All IsAsciiDigit text

-- the refusal applies to a head, whatever else does
abbrev pub AppliesToHead : RequestHead → HeadRefusal → Type 0
AppliesToHead head BadHead = ⊥
AppliesToHead head Chunked = 0 < length (values_of (codes "transfer-encoding") head)
AppliesToHead head BadLength = (1 < length (values_of (codes "content-length") head)) ⊎ ((text : List ℕ) × (values_of (codes "content-length") head ≡ text ∷ []) × (IsLengthText text → ⊥))
AppliesToHead head TooLarge = (text : List ℕ) × (values_of (codes "content-length") head ≡ text ∷ []) × IsLengthText text × (max_body < digits_value 10 text)
AppliesToHead head TwoCallers = 1 < length (values_of (codes "depot-caller") head)

-- the refusal applies to a front
abbrev pub RefusalApplies : List ℕ → HeadRefusal → Type 0
RefusalApplies front BadHead = IsHead front → ⊥
RefusalApplies front refusal = (head : RequestHead) × SpellsHead front head × AppliesToHead head refusal

abbrev pub HasNoRefusal : List ℕ → Type 0
HasNoRefusal front = (refusal : HeadRefusal) → RefusalApplies front refusal → ⊥

-- the step of hearing at which a refusal is found
abbrev pub step_of : HeadRefusal → ℕ
step_of BadHead = 1
step_of Chunked = 2
step_of BadLength = 3
step_of TooLarge = 3
step_of TwoCallers = 4

-- the refusal applies, and none of an earlier step does
pub record AppliesFirst (front : List ℕ) (refusal : HeadRefusal) : Type 0 where
  pub applies : RefusalApplies front refusal
  pub first : (earlier : HeadRefusal) → step_of earlier < step_of refusal → RefusalApplies front earlier → ⊥

-- the caller is the one name under `Depot-Caller`
abbrev pub NamesCaller : List (List ℕ) → Option (List ℕ) → Type 0
NamesCaller values (Some name) = (values ≡ name ∷ []) × IsName name
NamesCaller values None = (name : List ℕ) → values ≡ name ∷ [] → IsName name → ⊥

-- that many bytes follow the head: none where it has no content length
abbrev pub AnnouncesBody : List (List ℕ) → ℕ → Type 0
AnnouncesBody values count = ((values ≡ []) × (count ≡ 0)) ⊎ ((text : List ℕ) × (values ≡ text ∷ []) × IsLengthText text × (count ≡ digits_value 10 text))

-- the front spells a head that says this
pub record SaysContents (front : List ℕ) (contents : HeadContents) : Type 0 where
  pub head : RequestHead
  pub spells : SpellsHead front head
  pub method : contents.method ≡ head.method
  pub target : contents.target ≡ head.target
  pub caller : NamesCaller (values_of (codes "depot-caller") head) contents.caller
  pub body_length : AnnouncesBody (values_of (codes "content-length") head) contents.body_length
