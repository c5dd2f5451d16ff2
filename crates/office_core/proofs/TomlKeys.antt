-- A table at the top of a TOML text has each of its keys once.
use Rattle.office_core.proofs.Common.{◌≡◌, ◌∙◌, ℕ, zero, suc, Bool, true, false, List, [], ◌∷◌, length, drop, Option, Some, None, option_map, option_and_then, refl, sym, ap, subst, Ordering, Less, nat_cmp, is_eq, if◌then◌else◌, none-some, same_Some, option_and_then_some, slice_cmp, ordering_reverse, Data, string, array, table, no_items, Members, no_members, member, same_key, get_member}
use Rattle.std.proofs.lemmas.Cmp.{nat_list_cmp_total}
use Rattle.std.specs.Cmp.{tied_itself}
use Rattle.toml_parser.specs.Lexical.{Read, right_bracket, skip_blank}
use Rattle.toml_parser.specs.Strings.{Key, recursion_limit}
use Rattle.toml_parser.specs.declared.scalar.Scalar.{Scalar}
use Rattle.toml_parser.specs.declared.scalar.Scalar.TheVariants.{Boolean}
use Rattle.toml.specs.Tables.{Origin, Node, Nodes, no_nodes, node, value, open_table, open_array, implicit, dotted, header, get_node, insert, replace, close, close_node, Edit, header_node, dot_node, along_header, along_dots, Definition, key_value, std_table, array_table, Expression, new_node, redefine, at_key, put, Document, define_as, define}
use Rattle.toml.specs.Parse.{read_map, after_byte, after_element, key_equals, keyval, items, members, scalar_data, atom, val, header_key, expression, line, lines, skip_bom, parse_document}
use Rattle.office_core.proofs.OptionLemmas.{option_map_some, by_Bool, by_Option, by_Ordering, some_if}

-- ---- what is shown

-- no member has the key
abbrev pub IsNoKey : List ℕ → Members → Type 0
IsNoKey k no_members = Unit {0}
IsNoKey k (member l d ms) = (same_key k l ≡ false) × IsNoKey k ms

-- each key is there once
abbrev pub HasKeysOnce : Members → Type 0
HasKeysOnce no_members = Unit {0}
HasKeysOnce (member k d ms) = IsNoKey k ms × HasKeysOnce ms

-- the same of a table, and nothing of what is none
abbrev pub IsSound : Data → Type 0
IsSound (table ms) = HasKeysOnce ms
IsSound _ = Unit {0}

-- each value is sound
abbrev pub AllSound : Members → Type 0
AllSound no_members = Unit {0}
AllSound (member k d ms) = IsSound d × AllSound ms

-- ---- the same while a text is read

abbrev IsNew : List ℕ → Nodes → Type 0
IsNew k no_nodes = Unit {0}
IsNew k (node l x ns) = (same_key k l ≡ false) × IsNew k ns

abbrev mutual
  SoundNode : Node → Type 0
  SoundNode (value d) = IsSound d
  SoundNode (open_table origin ns) = SoundNodes ns
  SoundNode (open_array done ns) = Unit {0}

  SoundNodes : Nodes → Type 0
  SoundNodes no_nodes = Unit {0}
  SoundNodes (node k x ns) = IsNew k ns × (SoundNode x × SoundNodes ns)

close_new : (k : List ℕ) (ns : Nodes) → IsNew k ns → IsNoKey k (close ns)
close_new k no_nodes new = tt
close_new k (node l x ns) new = (new.0, close_new k ns new.1)

close_once : (ns : Nodes) → SoundNodes ns → HasKeysOnce (close ns)
close_once no_nodes sound = tt
close_once (node k x ns) sound = (close_new k ns sound.0, close_once ns sound.1.1)

close_node_sound : (x : Node) → SoundNode x → IsSound (close_node x)
close_node_sound (value d) sound = sound
close_node_sound (open_table origin ns) sound = close_once ns sound
close_node_sound (open_array done ns) sound = tt

close_sound : (ns : Nodes) → SoundNodes ns → AllSound (close ns)
close_sound no_nodes sound = tt
close_sound (node k x ns) sound = (close_node_sound x sound.1.0, close_sound ns sound.1.1)

-- ---- keys

pub same_key-self : (k : List ℕ) → same_key k k ≡ true
same_key-self k = rw (tied_itself nat_list_cmp_total k)

is_eq-reverse : (o : Ordering) → is_eq (ordering_reverse o) ≡ is_eq o
is_eq-reverse Less = refl
is_eq-reverse _ = refl

same_key-other : (k l : List ℕ) → same_key k l ≡ false → same_key l k ≡ false
same_key-other k l other = ap is_eq (nat_list_cmp_total.antisymm l k) ∙ is_eq-reverse (slice_cmp nat_cmp k l) ∙ other

-- ---- inserting and replacing

-- what follows from either of two
picked : {A P : Type 0} (test : Bool) (a b : Option A) (x : A) → (a ≡ Some x → P) → (b ≡ Some x → P) → (if test then a else b) ≡ Some x → P
picked true a b x left right e = left e
picked false a b x left right e = right e

missing_new : (k : List ℕ) (ns : Nodes) → get_node k ns ≡ None → IsNew k ns
missing_new k no_nodes none = tt
missing_new k (node l x ns) none = by_Bool (same_key k l) (λ same. absurd (none-some x (sym (rw same at none)))) (λ other. (other, missing_new k ns (rw other at none)))

insert_new : (j k : List ℕ) (x : Node) (ns : Nodes) → same_key j k ≡ false → IsNew j ns → IsNew j (insert k x ns)
insert_new j k x no_nodes other new = (other, tt)
insert_new j k x (node l y ns) other new =
    by_Ordering (slice_cmp nat_cmp k l) (λ less. rw less (other, new)) (λ equal. rw equal (new.0, new.1)) (λ greater. rw greater (new.0, insert_new j k x ns other new.1))

insert_sound : (k : List ℕ) (x : Node) (ns : Nodes) → SoundNode x → IsNew k ns → SoundNodes ns → SoundNodes (insert k x ns)
insert_sound k x no_nodes here new sound = (tt, (here, tt))
insert_sound k x (node l y ns) here new sound =
    by_Ordering (slice_cmp nat_cmp k l)
    (λ less. rw less (new, (here, sound)))
    (λ equal. rw equal (sound.0, (here, sound.1.1)))
    (λ greater. rw greater (insert_new l k x ns (same_key-other k l new.0) sound.0, (sound.1.0, insert_sound k x ns here new.1 sound.1.1)))

replace_new : (j k : List ℕ) (x : Node) (ns : Nodes) → IsNew j ns → IsNew j (replace k x ns)
replace_new j k x no_nodes new = tt
replace_new j k x (node l y ns) new = by_Bool (same_key k l) (λ same. rw same new) (λ other. rw other (new.0, replace_new j k x ns new.1))

replace_sound : (k : List ℕ) (x : Node) (ns : Nodes) → SoundNode x → SoundNodes ns → SoundNodes (replace k x ns)
replace_sound k x no_nodes here sound = tt
replace_sound k x (node l y ns) here sound =
    by_Bool (same_key k l) (λ same. rw same (sound.0, (here, sound.1.1))) (λ other. rw other (replace_new l k x ns sound.0, (sound.1.0, replace_sound k x ns here sound.1.1)))

found_sound : (k : List ℕ) (x : Node) (ns : Nodes) → get_node k ns ≡ Some x → SoundNodes ns → SoundNode x
found_sound k x no_nodes found sound = absurd (none-some x found)
found_sound k x (node l y ns) found sound =
    picked (same_key k l) (Some y) (get_node k ns) x
    (λ is. subst SoundNode (same_Some y x is) sound.1.0)
    (λ is. found_sound k x ns is sound.1.1)
    found

-- ---- edits

-- an edit leaves sound nodes sound
abbrev Keeps : Edit → Type 0
Keeps edit = (ns result : Nodes) → SoundNodes ns → edit ns ≡ Some result → SoundNodes result

header_sound : (edit : Edit) → Keeps edit → (x y : Node) → SoundNode x → header_node edit x ≡ Some y → SoundNode y
header_sound edit keeps (value d) y sound e = absurd (none-some y e)
header_sound edit keeps (open_table origin inner) y sound e =
    option_map_some (open_table origin) (edit inner) y e (λ new is same. subst SoundNode same (keeps inner new sound is))
header_sound edit keeps (open_array done last) y sound e =
    option_map_some (open_array done) (edit last) y e (λ new is same. subst SoundNode same tt)

dot_sound : (edit : Edit) → Keeps edit → (x y : Node) → SoundNode x → dot_node edit x ≡ Some y → SoundNode y
dot_sound edit keeps (open_table implicit inner) y sound e =
    option_map_some (open_table dotted) (edit inner) y e (λ new is same. subst SoundNode same (keeps inner new sound is))
dot_sound edit keeps (open_table dotted inner) y sound e =
    option_map_some (open_table dotted) (edit inner) y e (λ new is same. subst SoundNode same (keeps inner new sound is))
dot_sound edit keeps _ y sound e = absurd cc

-- a table that is put there new
table_put_sound : (origin : Origin) (k : List ℕ) (edit : Edit) → Keeps edit → (ns result : Nodes) → get_node k ns ≡ None → SoundNodes ns
    → option_map (λ new. insert k (open_table origin new) ns) (edit no_nodes) ≡ Some result → SoundNodes result
table_put_sound origin k edit keeps ns result none sound e =
    option_map_some (λ new. insert k (open_table origin new) ns) (edit no_nodes) result e
    (λ new is same. subst SoundNodes same (insert_sound k (open_table origin new) ns (keeps no_nodes new tt is) (missing_new k ns none) sound))

-- a node that is replaced
node_put_sound : (step : Node → Option Node) → ((x y : Node) → SoundNode x → step x ≡ Some y → SoundNode y) → (k : List ℕ) (x : Node) (ns result : Nodes) → get_node k ns ≡ Some x → SoundNodes ns
    → option_map (λ new. replace k new ns) (step x) ≡ Some result → SoundNodes result
node_put_sound step sound_step k x ns result found sound e =
    option_map_some (λ new. replace k new ns) (step x) result e
    (λ new is same. subst SoundNodes same (replace_sound k new ns (sound_step x new (found_sound k x ns found sound) is) sound))

along_header_keeps : (path : List (List ℕ)) (edit : Edit) → Keeps edit → Keeps (along_header path edit)
unfolding along_header
along_header_keeps [] edit keeps ns result sound e = keeps ns result sound e
along_header_keeps (k ∷ path) edit keeps ns result sound e =
    by_Option (get_node k ns)
    (λ none. table_put_sound implicit k (along_header path edit) (along_header_keeps path edit keeps) ns result none sound (rw none at e))
    (λ x found. node_put_sound (header_node (along_header path edit)) (header_sound (along_header path edit) (along_header_keeps path edit keeps)) k x ns result found sound (rw found at e))

along_dots_keeps : (path : List (List ℕ)) (edit : Edit) → Keeps edit → Keeps (along_dots path edit)
unfolding along_dots
along_dots_keeps [] edit keeps ns result sound e = keeps ns result sound e
along_dots_keeps (k ∷ path) edit keeps ns result sound e =
    by_Option (get_node k ns)
    (λ none. table_put_sound dotted k (along_dots path edit) (along_dots_keeps path edit keeps) ns result none sound (rw none at e))
    (λ x found. node_put_sound (dot_node (along_dots path edit)) (dot_sound (along_dots path edit) (along_dots_keeps path edit keeps)) k x ns result found sound (rw found at e))

-- what a line defines is sound
abbrev SoundDefinition : Definition → Type 0
SoundDefinition (key_value d) = IsSound d
SoundDefinition _ = Unit {0}

new_node_sound : (what : Definition) → SoundDefinition what → SoundNode (new_node what)
new_node_sound (key_value d) here = here
new_node_sound _ here = tt

redefine_sound : (what : Definition) (x y : Node) → SoundNode x → redefine what x ≡ Some y → SoundNode y
redefine_sound std_table (open_table implicit inner) y sound e = subst SoundNode (same_Some (open_table header inner) y e) sound
redefine_sound array_table (open_array done last) (open_array more next) sound e = tt
redefine_sound _ _ _ sound e = absurd cc

at_key_keeps : (k : List ℕ) (what : Definition) → SoundDefinition what → Keeps (at_key k what)
unfolding at_key
at_key_keeps k what here ns result sound e =
    by_Option (get_node k ns)
    (λ none. subst SoundNodes (same_Some (insert k (new_node what) ns) result (rw none at e)) (insert_sound k (new_node what) ns (new_node_sound what here) (missing_new k ns none) sound))
    (λ x found. option_map_some (λ y. replace k y ns) (redefine what x) result (rw found at e)
    (λ y is same. subst SoundNodes same (replace_sound k y ns (redefine_sound what x y (found_sound k x ns found sound) is) sound)))

put_keeps : (key : Key) (d : Data) → IsSound d → Keeps (put key d)
put_keeps key d here = along_dots_keeps key.0 (at_key key.1 (key_value d)) (at_key_keeps key.1 (key_value d) here)

define_sound : (doc : Document) (key : Key) (what : Definition) (result : Document) → SoundDefinition what → SoundNodes doc.0 → define_as doc key what ≡ Some result → SoundNodes result.0
define_sound doc key (key_value d) result here sound e =
    option_map_some (λ root. (root, doc.1)) (along_header doc.1 (put key d) doc.0) result e
    (λ root is same. subst (λ (after : Document). SoundNodes after.0) same (along_header_keeps doc.1 (put key d) (put_keeps key d here) doc.0 root sound is))
define_sound doc key what result here sound e =
    option_map_some _ (along_header key.0 (at_key key.1 what) doc.0) result e
    (λ root is same. subst (λ (after : Document). SoundNodes after.0) same (along_header_keeps key.0 (at_key key.1 what) (at_key_keeps key.1 what here) doc.0 root sound is))

-- ---- values

-- what a reader reads is sound
abbrev ReadsSound : (List ℕ → Read Data) → Type 0
ReadsSound read = (text : List ℕ) (d : Data) (rest : List ℕ) → read text ≡ Some (d, rest) → IsSound d

mapped_sound : {A : Type 0} (f : A → Data) (r : Read A) (d : Data) (rest : List ℕ) → ((x : A) (after : List ℕ) → r ≡ Some (x, after) → IsSound (f x)) → read_map f r ≡ Some (d, rest) → IsSound d
mapped_sound f r d rest each e = option_map_some (λ p. (f p.0, p.1)) r (d, rest) e (λ p is same. subst IsSound (ap (λ q. q.0) same) (each p.0 p.1 is))

scalar_sound : (s : Scalar) → IsSound (scalar_data s)
scalar_sound (Boolean b) = tt
scalar_sound _ = tt

atom_sound : ReadsSound atom
unfolding atom
atom_sound text d rest e =
    picked _ _ _ (d, rest)
    (mapped_sound string _ d rest (λ x after is. tt))
    (mapped_sound scalar_data _ d rest (λ s after is. scalar_sound s))
    e

keyval_sound : (read : List ℕ → Read Data) → ReadsSound read → (text : List ℕ) (k : Key) (d : Data) (rest : List ℕ) → keyval read text ≡ Some ((k, d), rest) → IsSound d
keyval_sound read sound text k d rest e =
    option_and_then_some _ (key_equals text) ((k, d), rest) e
    (λ key is value. option_map_some _ (read key.1) ((k, d), rest) value
    (λ p found same. subst IsSound (ap (λ (q : (Key × Data) × List ℕ). q.0.1) same) (sound key.1 p.0 p.1 found)))

members_once : (read : List ℕ → Read Data) → ReadsSound read → (n : ℕ) (found : Nodes) (text : List ℕ) (ms : Members) (rest : List ℕ) → SoundNodes found → members read n found text ≡ Some (ms, rest) → HasKeysOnce ms
unfolding members
members_once read sound zero found text ms rest here e = absurd (none-some (ms, rest) e)
members_once read sound (suc n) found text ms rest here e =
    let start = skip_blank text in
    picked _ _ _ (ms, rest)
    (λ is. subst HasKeysOnce (ap (λ (q : Members × List ℕ). q.0) (same_Some (close found, drop 1 start) (ms, rest) is)) (close_once found here))
    (λ is. option_and_then_some _ (keyval read start) (ms, rest) is
    (λ entry entry_is after. option_and_then_some _ (put entry.0.0 entry.0.1 found) (ms, rest) after
    (λ more more_is next. option_and_then_some _ (after_element 125 entry.1) (ms, rest) next
    (λ left left_is last. members_once read sound n more left ms rest
    (put_keeps entry.0.0 entry.0.1 (keyval_sound read sound start entry.0.0 entry.0.1 entry.1 entry_is) found more here more_is) last))))
    e

val_sound : (depth : ℕ) → ReadsSound (val depth)
unfolding val
val_sound zero text d rest e = atom_sound text d rest e
val_sound (suc depth) text d rest e =
    picked _ _ _ (d, rest)
    (mapped_sound array (items (val depth) (length text) no_items (drop 1 text)) d rest (λ x after is. tt))
    (picked _ _ _ (d, rest)
    (mapped_sound table (members (val depth) (length text) no_nodes (drop 1 text)) d rest (λ ms after is. members_once (val depth) (val_sound depth) (length text) no_nodes (drop 1 text) ms after tt is))
    (atom_sound text d rest))
    e

-- ---- lines

-- what was read defines what is sound
abbrev DefinesSound : Expression × List ℕ → Type 0
DefinesSound read = SoundDefinition read.0.1

array_header_sound : (k : Read Key) (read : Expression × List ℕ)
    → option_and_then (λ k. option_map (λ left. ((k.0, array_table), left)) (after_byte right_bracket k.1)) k ≡ Some read → DefinesSound read
array_header_sound k read e =
    option_and_then_some _ k read e
    (λ key is mapped. option_map_some (λ (left : List ℕ). ((key.0, array_table), left)) (after_byte right_bracket key.1) read mapped (λ left _ same. subst DefinesSound same tt))

std_header_sound : (k : Read Key) (read : Expression × List ℕ) → read_map (λ k. (k, std_table)) k ≡ Some read → DefinesSound read
std_header_sound k read e = option_map_some _ k read e (λ key is same. subst DefinesSound same tt)

pair_sound : (text : List ℕ) (read : Expression × List ℕ) → read_map (λ p. (p.0, key_value p.1)) (keyval (val recursion_limit) text) ≡ Some read → DefinesSound read
pair_sound text read e =
    option_map_some _ (keyval (val recursion_limit) text) read e
    (λ p is same. subst DefinesSound same (keyval_sound (val recursion_limit) (val_sound recursion_limit) text p.0.0 p.0.1 p.1 is))

expression_sound : (text : List ℕ) (read : Expression × List ℕ) → expression text ≡ Some read → DefinesSound read
unfolding expression
expression_sound text read e =
    picked _ _ _ read (array_header_sound (header_key (drop 2 text)) read) (picked _ _ _ read (std_header_sound (header_key (drop 1 text)) read) (pair_sound text read)) e

line_sound : (text : List ℕ) (read : Expression × List ℕ) → line text ≡ Some read → DefinesSound read
unfolding line
line_sound text read e =
    option_and_then_some _ (expression text) read e
    (λ found is kept. subst DefinesSound (same_Some found read (some_if _ _ read kept).1) (expression_sound text found is))

lines_sound : (n : ℕ) (doc result : Document) (text : List ℕ) → SoundNodes doc.0 → lines n doc text ≡ Some result → SoundNodes result.0
unfolding lines define
lines_sound zero doc result text sound e = absurd (none-some result e)
lines_sound (suc n) doc result text sound e =
    let start = skip_blank text in
    picked _ _ _ result
    (λ is. subst (λ (after : Document). SoundNodes after.0) (same_Some doc result is) sound)
    (λ is. option_and_then_some _ (line start) result is
    (λ read read_is after. option_and_then_some _ (define doc read.0) result after
    (λ next next_is last. lines_sound n next result read.1
    (define_sound doc read.0.0 read.0.1 next (line_sound start read read_is) sound next_is) last)))
    e

-- ---- documents

-- each table at the top of a text has its keys once
pub parsed_sound : (text : List ℕ) (tree : Members) → parse_document text ≡ Some tree → AllSound tree
unfolding parse_document
parsed_sound text tree e =
    option_map_some (λ (doc : Document). close doc.0) (lines (suc (length text)) (no_nodes, []) (skip_bom text)) tree e
    (λ doc is same. subst AllSound same (close_sound doc.0 (lines_sound (suc (length text)) (no_nodes, []) doc (skip_bom text) tt is)))

pub member_sound : (k : List ℕ) (ms : Members) (d : Data) → AllSound ms → get_member k ms ≡ Some d → IsSound d
member_sound k no_members d sound e = absurd (none-some d e)
member_sound k (member l x ms) d sound e =
    let more = member_sound k ms d sound.1 in
    by_Ordering (slice_cmp nat_cmp k l) (λ less. more (rw less at e)) (λ equal. subst IsSound (same_Some x d (rw equal at e)) sound.0) (λ greater. more (rw greater at e))
