-- What longer histories have of shorter ones. Beside these lemmas only `alike_grown` looks at how deposits and holds are read off changes.
use Rattle.office_history.proofs.Common.{◌≡◌, ◌≤◌, ℕ, List, [], ◌∷◌, ◌++◌, length, length-append, append-nil, arith, refl, sym, ap, ◌∙◌, Some, None, filter_map, filter_map-append, Date, History, Change, Deposited, PlacedHold, Deposit, Hold, OnClass, OnCollection, with_changes, collection_in, collections, deposit_in, deposits, deposit_numbered, hold_in, holds, hold_numbered, by_Option}
use Rattle.office_history.proofs.ListLemmas.{numbered_front}

pub deposits_grown : (h : History) (more : List Change) → deposits (with_changes h more) ≡ deposits h ++ filter_map deposit_in more
deposits_grown h more = filter_map-append deposit_in h.changes more

pub holds_grown : (h : History) (more : List Change) → holds (with_changes h more) ≡ holds h ++ filter_map hold_in more
holds_grown h more = filter_map-append hold_in h.changes more

-- changes that leave the collections, the deposits, and the holds, as they were
abbrev pub LeavesCollections : List Change → Type 0
LeavesCollections more = filter_map collection_in more ≡ []

abbrev pub LeavesDeposits : List Change → Type 0
LeavesDeposits more = filter_map deposit_in more ≡ []

abbrev pub LeavesHolds : List Change → Type 0
LeavesHolds more = filter_map hold_in more ≡ []

pub same_collections : (h : History) (more : List Change) → LeavesCollections more → collections (with_changes h more) ≡ collections h
same_collections h more left = filter_map-append collection_in h.changes more ∙ ap (λ added. collections h ++ added) left ∙ append-nil (collections h)

pub same_deposits : (h : History) (more : List Change) → LeavesDeposits more → deposits (with_changes h more) ≡ deposits h
same_deposits h more left = deposits_grown h more ∙ ap (λ added. deposits h ++ added) left ∙ append-nil (deposits h)

pub same_holds : (h : History) (more : List Change) → LeavesHolds more → holds (with_changes h more) ≡ holds h
same_holds h more left = holds_grown h more ∙ ap (λ added. holds h ++ added) left ∙ append-nil (holds h)

-- and a change that adds one, before such changes
pub one_deposit : (h : History) (day : Date) (deposit : Deposit) (rest : List Change) → LeavesDeposits rest → deposits (with_changes h (Deposited day deposit ∷ rest)) ≡ deposits h ++ (day, deposit) ∷ []
one_deposit h day deposit rest left = deposits_grown h (Deposited day deposit ∷ rest) ∙ ap (λ added. deposits h ++ (day, deposit) ∷ added) left

pub one_hold : (h : History) (day : Date) (hold : Hold) (rest : List Change) → LeavesHolds rest → holds (with_changes h (PlacedHold day hold ∷ rest)) ≡ holds h ++ (day, hold) ∷ []
one_hold h day hold rest left = holds_grown h (PlacedHold day hold ∷ rest) ∙ ap (λ added. holds h ++ (day, hold) ∷ added) left

pub more_deposits : (h : History) (more : List Change) → length (deposits h) ≤ length (deposits (with_changes h more))
more_deposits h more = rw (deposits_grown h more, length-append (deposits h) (filter_map deposit_in more)) (omega arith)

pub more_holds : (h : History) (more : List Change) → length (holds h) ≤ length (holds (with_changes h more))
more_holds h more = rw (holds_grown h more, length-append (holds h) (filter_map hold_in more)) (omega arith)

-- a deposit keeps its number and its bag
pub bag_stays : (h : History) (more : List Change) (n : ℕ) (found : Date × Deposit) → deposit_numbered h n ≡ Some found → (now : Date × Deposit) × (deposit_numbered (with_changes h more) n ≡ Some now) × (now.1.bag ≡ found.1.bag)
bag_stays h more n found e = (found, rw (deposits_grown h more) (numbered_front (deposits h) (filter_map deposit_in more) n found e), refl)

-- and a hold its number, and what it names
hold_stays : (h : History) (more : List Change) (k : ℕ) (found : Date × Hold) → hold_numbered h k ≡ Some found → hold_numbered (with_changes h more) k ≡ Some found
hold_stays h more k found e = rw (holds_grown h more) (numbered_front (holds h) (filter_map hold_in more) k found e)

pub class_hold_stays : (h : History) (more : List Change) (k : ℕ) (day : Date) (name matter : List ℕ)
    → hold_numbered h k ≡ Some (day, record { target = OnClass name; matter = matter }) → hold_numbered (with_changes h more) k ≡ Some (day, record { target = OnClass name; matter = matter })
class_hold_stays h more k day name matter = hold_stays h more k (day, record { target = OnClass name; matter = matter })

pub collection_hold_stays : (h : History) (more : List Change) (k : ℕ) (day : Date) (name matter : List ℕ)
    → hold_numbered h k ≡ Some (day, record { target = OnCollection name; matter = matter }) → hold_numbered (with_changes h more) k ≡ Some (day, record { target = OnCollection name; matter = matter })
collection_hold_stays h more k day name matter = hold_stays h more k (day, record { target = OnCollection name; matter = matter })

-- what isn't there now was not there before
pub no_deposit_before : (h : History) (more : List Change) (n : ℕ) → deposit_numbered (with_changes h more) n ≡ None → deposit_numbered h n ≡ None
no_deposit_before h more n e =
    by_Option (deposit_numbered h n) (λ none. none) (λ found is. let now = bag_stays h more n found is in let wrong : Some now.0 ≡ None = sym now.1 ∙ e in absurd cc)

pub no_hold_before : (h : History) (more : List Change) (k : ℕ) → hold_numbered (with_changes h more) k ≡ None → hold_numbered h k ≡ None
no_hold_before h more k e =
    by_Option (hold_numbered h k) (λ none. none) (λ found is. let wrong : Some found ≡ None = sym (hold_stays h more k found is) ∙ e in absurd cc)
