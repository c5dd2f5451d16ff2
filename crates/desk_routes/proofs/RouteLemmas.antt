-- The router finds the row of what the parts of a path say, and its parameters take these parts.
use Rattle.desk_routes.proofs.Common.{◌≡◌, ℕ, suc, zero, ◌<◌, List, [], ◌∷◌, ◌++◌, get_or, Option, Some, None, Bool, true, refl, ap, ◌∙◌, arith, codes, ltb, ◌&&◌, and_parts, nat_tests, option_map, Rows, prepend, ends, param_token, catch_all_token, RouteOf, map_key, rename, first, IsText, PathPattern, Parts, nothing_more, last_part, all_of, under_deposit, under_deposits, parts_of, class, collection, deposit, holds_of_deposit, bag, audit, hold, file, deposits, holds, due, row_of, the_rows, ◌+◌, length, drop, sym, subst, append_assoc, length-append, IsUtf8, option_and_then, take-append_seam, drop-append-add, get_or-append_seam, walk, part_of, AllText, RowsOf, segment, Resource, resource_by_parts, resource_named, Texts, resource_by_texts}
use Rattle.matchit.proofs.RenameLemmas.{first-rename}
use Rattle.desk_routes.proofs.PathLemmas.{param-says, rows-after, row-after, end-says, all-says, last-says, IsPart}
use Rattle.std.proofs.lemmas.Str.{IsUtf8-take, IsUtf8-drop, IsCharBoundary-after_ascii, IsCharBoundary-before_ascii}
use Rattle.desk_routes.proofs.WalkLemmas.{takes-rest, takes-part, more_follows}
use Rattle.office_core.proofs.OptionLemmas.{option_map_some, option_map_none}
use Rattle.desk_routes.proofs.SpellingLemmas.{SpellsParts, spelled}

-- the router's rows by number
abbrev pub key : Parts → ℕ
key (class name) = 0
key (collection name) = 1
key (audit number) = 2
key (bag number) = 3
key (file number path) = 4
key (holds_of_deposit number) = 5
key (deposit number) = 6
key deposits = 7
key due = 8
key (hold number) = 9
key holds = 10

abbrev pub numbered : List (RouteOf PathPattern)
numbered = row_of (class []) ∷ row_of (collection []) ∷ row_of (audit []) ∷ row_of (bag []) ∷ row_of (file [] []) ∷ row_of (holds_of_deposit []) ∷ row_of (deposit []) ∷ row_of deposits ∷ row_of due ∷ row_of (hold []) ∷ row_of holds ∷ []

abbrev pub at_number : ℕ → RouteOf PathPattern
at_number n = get_or numbered n (row_of due)

row_is : (parts : Parts) → at_number (key parts) ≡ row_of parts
row_is (class name) = refl
row_is parts = refl

-- the rows, by beginnings
abbrev pub one : ℕ → Rows
one k = ends (Some k)

abbrev pub parameter : Rows → Rows
parameter t = prepend (param_token ∷ []) t

abbrev pub deposit_rows : Rows
deposit_rows = prepend (codes "audit") (one 2) ++ (prepend (codes "bag") (one 3) ++ (prepend (codes "files/") (prepend (catch_all_token ∷ []) (one 4)) ++ prepend (codes "holds") (one 5)))

abbrev pub from_holds : Rows
from_holds = prepend (codes "/holds/") (parameter (one 9)) ++ prepend (codes "/holds") (one 10)

abbrev pub from_due : Rows
from_due = prepend (codes "/due") (one 8) ++ from_holds

abbrev pub from_list : Rows
from_list = prepend (codes "/deposits") (one 7) ++ from_due

abbrev pub from_deposits : Rows
from_deposits = prepend (codes "/deposits/") (parameter (prepend (47 ∷ []) deposit_rows ++ ends (Some 6))) ++ from_list

abbrev pub from_collections : Rows
from_collections = prepend (codes "/collections/") (parameter (one 1)) ++ from_deposits

abbrev pub keyed : Rows
keyed = prepend (codes "/classes/") (parameter (one 0)) ++ from_collections

rows_are : the_rows ≡ rename at_number keyed
rows_are = refl

-- a literal is made of bytes
abbrev pub all_bytes : List ℕ → Bool
all_bytes [] = true
all_bytes (b ∷ w) = ltb b 256 && all_bytes w

bytes : (w : List ℕ) → all_bytes w ≡ true → IsText w
bytes [] e = tt
bytes (b ∷ w) e = let f = and_parts (ltb b 256) (all_bytes w) e in (let g : ltb b 256 ≡ true = f.0 in grind (arith, nat_tests), bytes w f.1)

deposit-says : (number rest : List ℕ) → IsText rest → first deposit_rows rest ≡ map_key key (under_deposit number rest)
deposit-says number rest text =
    rows-after key (codes "audit") (one 2) _ (nothing_more (audit number)) _ rest (bytes (codes "audit") refl) refl text (λ p h. end-says key (audit number) p)
    (rows-after key (codes "bag") (one 3) _ (nothing_more (bag number)) _ rest (bytes (codes "bag") refl) refl text (λ p h. end-says key (bag number) p)
    (rows-after key (codes "files/") (prepend (catch_all_token ∷ []) (one 4)) _ (all_of (file number)) _ rest (bytes (codes "files/") refl) refl text (λ p h. all-says key 4 (file number) (λ r. refl) p h)
    (row-after key (codes "holds") (one 5) (nothing_more (holds_of_deposit number)) rest (bytes (codes "holds") refl) text (λ p h. end-says key (holds_of_deposit number) p))))

keyed-says : (path : List ℕ) → IsText path → first keyed path ≡ map_key key (parts_of path)
keyed-says path text =
    rows-after key (codes "/classes/") (parameter (one 0)) from_collections (last_part class) _ path (bytes (codes "/classes/") refl) refl text (λ p h. last-says key 0 class (λ r. refl) p h)
    (rows-after key (codes "/collections/") (parameter (one 1)) from_deposits (last_part collection) _ path (bytes (codes "/collections/") refl) refl text (λ p h. last-says key 1 collection (λ r. refl) p h)
    (rows-after key (codes "/deposits/") (parameter (prepend (47 ∷ []) deposit_rows ++ ends (Some 6))) from_list under_deposits _ path (bytes (codes "/deposits/") refl) refl text (λ p h. param-says key (Some 6) deposit_rows (λ n. Some (deposit n)) under_deposit p h (λ n. refl) deposit-says)
    (rows-after key (codes "/deposits") (one 7) from_due (nothing_more deposits) _ path (bytes (codes "/deposits") refl) refl text (λ p h. end-says key deposits p)
    (rows-after key (codes "/due") (one 8) from_holds (nothing_more due) _ path (bytes (codes "/due") refl) refl text (λ p h. end-says key due p)
    (rows-after key (codes "/holds/") (parameter (one 9)) (prepend (codes "/holds") (one 10)) (last_part hold) _ path (bytes (codes "/holds/") refl) refl text (λ p h. last-says key 9 hold (λ r. refl) p h)
    (row-after key (codes "/holds") (one 10) (nothing_more holds) path (bytes (codes "/holds") refl) text (λ p h. end-says key holds p)))))))

twice : (found : Option Parts) → map_key at_number (map_key key found) ≡ option_map row_of found
twice None = refl
twice (Some parts) = ap Some (row_is parts)

-- the router answers with the row of the path's parts
router-says : (path : List ℕ) → IsText path → first the_rows path ≡ option_map row_of (parts_of path)
router-says path text = ap (λ r. first r path) rows_are ∙ first-rename at_number keyed path ∙ ap (map_key at_number) (keyed-says path text) ∙ twice (parts_of path)

pub is_text : (l : List ℕ) → ((i : ℕ) → get_or l i 0 < 256) → IsText l
is_text [] h = tt
is_text (b ∷ l) h = (h zero, is_text l (λ i. h (suc i)))

-- ---- what the parameters take

abbrev pub texts_of : Parts → Texts
texts_of (class name) = (codes "name", name) ∷ []
texts_of (collection name) = (codes "name", name) ∷ []
texts_of (audit number) = (codes "number", number) ∷ []
texts_of (bag number) = (codes "number", number) ∷ []
texts_of (file number path) = (codes "number", number) ∷ (codes "path", path) ∷ []
texts_of (holds_of_deposit number) = (codes "number", number) ∷ []
texts_of (deposit number) = (codes "number", number) ∷ []
texts_of deposits = []
texts_of due = []
texts_of (hold number) = (codes "number", number) ∷ []
texts_of holds = []

abbrev pub walked : Parts → List ℕ → Texts
walked parts path = walk (row_of parts).pattern (row_of parts).text path (row_of parts).names 0 0

-- the number of a deposit, before what names a thing of it
number-says : (parts : Parts) (path number tail : List ℕ) → (row_of parts).pattern ≡ codes "/deposits/" ++ 256 ∷ (47 ∷ tail) → (row_of parts).names ≡ (11, 17) ∷ [] → path ≡ codes "/deposits/" ++ (number ++ 47 ∷ tail) → IsPart number
    → part_of (row_of parts).text 11 17 ≡ codes "number" → more_follows (row_of parts).pattern 10 ≡ true → walked parts path ≡ (codes "number", number) ∷ []
number-says parts path number tail p n e h t goes =
    ap (λ names. walk (row_of parts).pattern (row_of parts).text path names 0 0) n
    ∙ takes-part (codes "/deposits/") (47 ∷ tail) 0 (row_of parts).pattern (row_of parts).text path (codes "/deposits/") number tail (11, 17) [] 0 10 p (bytes (codes "/deposits/") refl) e h.1 refl refl goes (ap (λ l. length (segment (drop 11 l))) p)
    ∙ ap (λ l. (l, number) ∷ []) t

walk-says : (parts : Parts) (path : List ℕ) → SpellsParts path parts → walked parts path ≡ texts_of parts
walk-says (class name) path h = takes-rest [] (codes "/classes/") [] 256 0 (row_of (class name)).pattern (codes "/classes/{name}") path (codes "/classes/") name (10, 14) 0 9 0 refl (bytes (codes "/classes/") refl) refl h.0 refl refl refl
walk-says (collection name) path h = takes-rest [] (codes "/collections/") [] 256 0 (row_of (collection name)).pattern (codes "/collections/{name}") path (codes "/collections/") name (14, 18) 0 13 0 refl (bytes (codes "/collections/") refl) refl h.0 refl refl refl
walk-says (audit number) path h = number-says (audit number) path number (codes "audit") refl refl h.0 h.1 refl refl
walk-says (bag number) path h = number-says (bag number) path number (codes "bag") refl refl h.0 h.1 refl refl
walk-says (file number rest) path h =
    let is : path ≡ codes "/deposits/" ++ (number ++ (codes "/files/" ++ rest)) = h.0 in
    let again : path ≡ (codes "/deposits/" ++ (number ++ codes "/files/")) ++ rest = is ∙ ap (λ l. codes "/deposits/" ++ l) (sym (append_assoc number (codes "/files/") rest)) in
    let len : length (codes "/deposits/") + length number + 7 ≡ length (codes "/deposits/" ++ (number ++ codes "/files/")) = simp length-append (omega arith) in
    takes-part (codes "/deposits/") (codes "/files/" ++ 257 ∷ []) 0 (row_of (file number rest)).pattern (row_of (file number rest)).text path (codes "/deposits/") number (codes "files/" ++ rest) (11, 17) ((27, 31) ∷ []) 0 10 refl (bytes (codes "/deposits/") refl) is h.1.0.1 refl refl refl refl
    ∙ ap (λ l. (codes "number", number) ∷ l) (takes-rest [] (codes "/files/") [] 257 11 (row_of (file number rest)).pattern (row_of (file number rest)).text path (codes "/deposits/" ++ (number ++ codes "/files/")) rest (27, 31) (length (codes "/deposits/") + length number) 18 0 refl (bytes (codes "/files/") refl) refl again len refl refl)
walk-says (holds_of_deposit number) path h = number-says (holds_of_deposit number) path number (codes "holds") refl refl h.0 h.1 refl refl
walk-says (deposit number) path h = takes-rest [] (codes "/deposits/") [] 256 0 (row_of (deposit number)).pattern (codes "/deposits/{number}") path (codes "/deposits/") number (11, 17) 0 10 0 refl (bytes (codes "/deposits/") refl) refl h.0 refl refl refl
walk-says deposits path h = refl
walk-says due path h = refl
walk-says (hold number) path h = takes-rest [] (codes "/holds/") [] 256 0 (row_of (hold number)).pattern (codes "/holds/{number}") path (codes "/holds/") number (8, 14) 0 7 0 refl (bytes (codes "/holds/") refl) refl h.0 refl refl refl
walk-says holds path h = refl

-- ---- a part of a path is a text

utf8-after : (w : List ℕ) (b : ℕ) (rest : List ℕ) → b < 128 → IsUtf8 (w ++ b ∷ rest) → IsUtf8 rest
utf8-after w b rest low u =
    let at : get_or (w ++ b ∷ rest) (length w) 0 < 128 = rw (get_or-append_seam w b rest 0) low in
    let room : length w < length (w ++ b ∷ rest) = simp length-append (omega arith) in
    subst IsUtf8 (drop-append-add w (b ∷ rest) 1) (IsUtf8-drop (w ++ b ∷ rest) (length w + 1) u (IsCharBoundary-after_ascii (w ++ b ∷ rest) (length w) u room at))

utf8-before : (part : List ℕ) (b : ℕ) (rest : List ℕ) → b < 128 → IsUtf8 (part ++ b ∷ rest) → IsUtf8 part
utf8-before part b rest low u =
    let at : get_or (part ++ b ∷ rest) (length part) 0 < 128 = rw (get_or-append_seam part b rest 0) low in
    let room : length part < length (part ++ b ∷ rest) = simp length-append (omega arith) in
    subst IsUtf8 (take-append_seam part (b ∷ rest)) (IsUtf8-take (part ++ b ∷ rest) (length part) u (IsCharBoundary-before_ascii (part ++ b ∷ rest) (length part) room at))

utf8-last : (w path part : List ℕ) → path ≡ w ++ (47 ∷ part) → IsUtf8 path → IsUtf8 part
utf8-last w path part e u = utf8-after w 47 part (omega arith) (subst IsUtf8 e u)

utf8-part : (w path part rest : List ℕ) → path ≡ w ++ (47 ∷ (part ++ 47 ∷ rest)) → IsUtf8 path → IsUtf8 part
utf8-part w path part rest e u = utf8-before part 47 rest (omega arith) (utf8-last w path (part ++ 47 ∷ rest) e u)

name_utf8 : IsUtf8 (codes "name")
unfolding lib.Utf8.encode
name_utf8 = (codes "name", (refl, refl))

number_utf8 : IsUtf8 (codes "number")
unfolding lib.Utf8.encode
number_utf8 = (codes "number", (refl, refl))

path_utf8 : IsUtf8 (codes "path")
unfolding lib.Utf8.encode
path_utf8 = (codes "path", (refl, refl))

texts-utf8 : (parts : Parts) (path : List ℕ) → SpellsParts path parts → IsUtf8 path → AllText (texts_of parts)
texts-utf8 (class name) path h u = (name_utf8, utf8-last (codes "/classes") path name h.0 u, tt)
texts-utf8 (collection name) path h u = (name_utf8, utf8-last (codes "/collections") path name h.0 u, tt)
texts-utf8 (audit number) path h u = (number_utf8, utf8-part (codes "/deposits") path number (codes "audit") h.0 u, tt)
texts-utf8 (bag number) path h u = (number_utf8, utf8-part (codes "/deposits") path number (codes "bag") h.0 u, tt)
texts-utf8 (file number rest) path h u = (number_utf8, utf8-part (codes "/deposits") path number (codes "files/" ++ rest) h.0 u, (path_utf8, utf8-last (codes "/deposits/" ++ (number ++ codes "/files")) path rest (h.0 ∙ ap (λ l. codes "/deposits/" ++ l) (sym (append_assoc number (codes "/files") (47 ∷ rest)))) u, tt))
texts-utf8 (holds_of_deposit number) path h u = (number_utf8, utf8-part (codes "/deposits") path number (codes "holds") h.0 u, tt)
texts-utf8 (deposit number) path h u = (number_utf8, utf8-last (codes "/deposits") path number h.0 u, tt)
texts-utf8 deposits path h u = tt
texts-utf8 due path h u = tt
texts-utf8 (hold number) path h u = (number_utf8, utf8-last (codes "/holds") path number h.0 u, tt)
texts-utf8 holds path h u = tt

by-texts : (parts : Parts) → resource_by_texts (row_of parts).value (texts_of parts) ≡ resource_by_parts parts
by-texts (class name) = refl
by-texts parts = refl

-- ---- what is found

pub nothing-found : (path : List ℕ) (held : RowsOf (RouteOf PathPattern)) → IsText path → held ≡ the_rows → first held path ≡ None → resource_named path ≡ None
nothing-found path held text hold_them e =
    ap (option_and_then resource_by_parts) (option_map_none row_of (parts_of path) (sym (router-says path text) ∙ ap (λ r. first r path) (sym hold_them) ∙ e))

pub resource-found : (path seen : List ℕ) (held : RowsOf (RouteOf PathPattern)) (row : RouteOf PathPattern) (result : Option Resource) → IsText path → IsUtf8 path → held ≡ the_rows → first held path ≡ Some row → seen ≡ path
    → (AllText (walk row.pattern row.text seen row.names 0 0) → result ≡ resource_by_texts row.value (walk row.pattern row.text seen row.names 0 0)) → result ≡ resource_named path
resource-found path seen held row result text u hold_them e same gives =
    option_map_some row_of (parts_of path) row (sym (router-says path text) ∙ ap (λ r. first r path) (sym hold_them) ∙ e)
    (λ parts is its_row.
    let spells : SpellsParts path parts = spelled path parts is in
    let all : walk row.pattern row.text seen row.names 0 0 ≡ texts_of parts = rw (← its_row, same) (walk-says parts path spells) in
    gives (rw all (texts-utf8 parts path spells u)) ∙ rw (all, ← its_row) (by-texts parts) ∙ ap (option_and_then resource_by_parts) (sym is))
