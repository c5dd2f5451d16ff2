-- What is logged of one connection more, and of the end.
use Rattle.desk_listening.proofs.Common.{◌≡◌, ◌++◌, ◌∷◌, [], List, Option, map, append-nil, subst, sym, map-append, IsLogged, Log, first_watch, lines_at, watch_after, Watch, OfficeNote, more_lines, lines_after, one_after, Connection, noted, lines_of, watch_of}

pub watch_more : (connections : List Connection) (last : Connection) (watch next : Watch) (note : Option OfficeNote) → watch ≡ watch_of connections → note ≡ noted last → next ≡ watch_after watch note
    → next ≡ watch_of (connections ++ last ∷ [])
watch_more connections last watch next note so_far is one =
    let more : watch_of (connections ++ last ∷ []) ≡ watch_after (watch_of connections) (noted last) =
    rw map-append (one_after first_watch (map noted connections) (noted last)) in
    cc

pub lines_more : (connections : List Connection) (last : Connection) (watch : Watch) (note : Option OfficeNote) (old mid new : Log) → watch ≡ watch_of connections → note ≡ noted last
    → IsLogged (lines_of connections) old mid → IsLogged (lines_at watch note) mid new → IsLogged (lines_of (connections ++ last ∷ [])) old new
lines_more connections last watch note old mid new so_far is lines one =
    let more : lines_of (connections ++ last ∷ []) ≡ lines_of connections ++ lines_at watch note =
    rw (map-append, so_far, is) (lines_after first_watch (map noted connections) (noted last)) in
    subst (λ (lines : List (List _)). IsLogged lines old new) (sym more) (more_lines (lines_of connections) (lines_at watch note) old mid new lines one)

pub no_end : (lines : List (List _)) (old new : Log) → IsLogged lines old new → IsLogged (lines ++ []) old new
no_end lines old new are = subst (λ (lines : List (List _)). IsLogged lines old new) (sym (append-nil lines)) are
