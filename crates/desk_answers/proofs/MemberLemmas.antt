-- Objects, from lists of their members: one member more.
use Rattle.desk_answers.proofs.Common.{◌≡◌, ℕ, ◌+◌, ◌<◌, List, length, get_or, take, fold, fold_more, Data, Members, no_members, put, member_data, with_member}
use Rattle.std.specs.Borrow.{Bor}
use Rattle.desk_answers.specs.declared.object.MemberValue.{MemberValue}

pub one_more_member : (ms : List (Bor (List ℕ) × MemberValue)) (i : ℕ) (m : Bor (List ℕ) × MemberValue) (before after : Members) (value : Data) → before ≡ fold with_member no_members (take i ms) → after ≡ put m.0.now value before → value ≡ member_data m.1 → i < length ms → m ≡ get_or ms i m → after ≡ fold with_member no_members (take (i + 1) ms)
one_more_member ms i m before after value was is same low at =
    rw (is, same, was, fold_more with_member no_members ms i m low, ← at)
