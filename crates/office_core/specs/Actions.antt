-- The actions that a policy speaks of, and how each is written.
use Rattle.std.specs.Prelude.{ℕ, List, [], ◌∷◌, Option, find, codes, bytes_eq}
use Rattle.office_core.specs.declared.action.Action.{Action}
use Rattle.office_core.specs.declared.action.Action.TheVariants.{Class, Collection, Deposit, List as Listing, Record, Holds, Download, Audit, Hold, Release, Dispose}

abbrev pub action_text : Action → List ℕ
action_text Class = codes "class"
action_text Collection = codes "collection"
action_text Deposit = codes "deposit"
action_text Listing = codes "list"
action_text Record = codes "record"
action_text Holds = codes "holds"
action_text Download = codes "download"
action_text Audit = codes "audit"
action_text Hold = codes "hold"
action_text Release = codes "release"
action_text Dispose = codes "dispose"

abbrev pub actions : List Action
actions = Class ∷ Collection ∷ Deposit ∷ Listing ∷ Record ∷ Holds ∷ Download ∷ Audit ∷ Hold ∷ Release ∷ Dispose ∷ []

-- the action that a text writes
abbrev pub action_of : List ℕ → Option Action
action_of text = find (λ action. bytes_eq (action_text action) text) actions
