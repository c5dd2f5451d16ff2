-- Files that were read, and lists that grow as another is gone through.
use Rattle.bag_folders.proofs.Common.{◌≡◌, ℕ, ◌+◌, ◌<◌, List, [], ◌∷◌, ◌++◌, length, get_or, take, refl, sym, ap, subst, ◌∙◌, append_assoc, arith, string_bytes, flat_map, append-nil, take_more, flat_map-append, File, entry, Listed, AppendsEntry, AreFilesOf}

-- ---- one list is a view of another

-- ---- files of a listing

pub one_more : (ls : List Listed) (fs : List File) (l : Listed) (f : File) → AreFilesOf ls fs → f.path ≡ string_bytes l.path → length f.content ≡ l.size → AreFilesOf (ls ++ l ∷ []) (fs ++ f ∷ [])
one_more [] [] l f h path size = (path, size, tt)
one_more [] (g ∷ fs) l f h path size = absurd h
one_more (k ∷ ls) [] l f h path size = absurd h
one_more (k ∷ ls) (g ∷ fs) l f h path size = (h.0, h.1, one_more ls fs l f h.2 path size)

pub same_count : (ls : List Listed) (fs : List File) → AreFilesOf ls fs → length ls ≡ length fs
same_count [] [] h = refl
same_count [] (f ∷ fs) h = absurd h
same_count (l ∷ ls) [] h = absurd h
same_count (l ∷ ls) (f ∷ fs) h = let k = same_count ls fs h.2 in omega arith

-- ---- a form that grows

-- the entry of a file more follows
pub entries_more : (ls : List Listed) (i : ℕ) (d : Listed) (start text now : List ℕ) → i < length ls
    → (list : List File) × AreFilesOf (take i ls) list × (text ≡ start ++ flat_map entry list) → AppendsEntry (get_or ls i d) text now
    → (list : List File) × AreFilesOf (take (i + 1) ls) list × (now ≡ start ++ flat_map entry list)
entries_more ls i d start text now lt so_far more =
    let l : Listed = get_or ls i d in
    let f : File = record { path = string_bytes l.path; content = more.0 } in
    let list : List File = so_far.0 in
    let grown : flat_map entry (list ++ f ∷ []) ≡ flat_map entry list ++ entry f = flat_map-append entry list (f ∷ []) ∙ ap (λ (t : List ℕ). flat_map entry list ++ t) (append-nil (entry f)) in (
      list ++ f ∷ [],
      subst (λ (ks : List Listed). AreFilesOf ks (list ++ f ∷ [])) (sym (take_more ls i d lt)) (one_more (take i ls) list l f so_far.1 refl more.1),
      more.2 ∙ ap (λ (t : List ℕ). t ++ entry f) so_far.2 ∙ append_assoc start (flat_map entry list) (entry f) ∙ ap (λ (t : List ℕ). start ++ t) (sym grown),
    )
