-- A row of the table that stands is the fault that reading gives.
use Rattle.bag_text.proofs.FirstLemmas.{◌≡◌, ℕ, zero, suc, ◌+◌, ◌-◌, ◌<◌, ◌≤◌, ◌≢◌, ◌⊎◌, inl, inr, true, false, cond, eqb, ltb, not, List, [], ◌∷◌, ◌++◌, length, refl, sym, ap, subst, ◌∙◌, arith, append_assoc, flat_map, AllByRecursion, nat_tests, lt-ltb, le-ltb, append-nil, take_at, drop_at, length-append, Flaw, Short, Bad, SetFault, BadOpening, BadEntry, Truncated, OutOfOrder, BadPath, TooManyFiles, TrailingBytes, PathClash, is_good, comes_before, File, Head, header, entry, opening, ending, set_text, max_files, Ascends, clashes, Fits, IsBag, BeginsWith, IsProperBeginning, IsOpening, IsEndOrHeader, IsHeaded, EntryFault, PositionFault, last_path, GoOn, FaultIs, EndOrHead, End, Entry, literal_at, end_or_head_at, file_at, result_at, entry_at, files_at, after_opening, set_of, Result, Ok, Err, same_ok, same_err, never_both, literal_ok, literal_again, literal_ends, literal_bad}
use Rattle.bag_text.proofs.FormLemmas.{place_ok, place_header, end_trails, entry_again, files_again, set_ok, set_again}
use Rattle.bag_text.proofs.FaultLemmas.{sized, fit, place_end, short_place, bad_place}
use Rattle.bag_text.proofs.SetLemmas.{at_fault, at_file}
use Rattle.bag_text.proofs.TableLemmas.{set_fault}
use Rattle.bag_text.proofs.CaseLemmas.{by_Result}

-- nothing is left of two pieces where nothing is left of both
nothing_more : (a b : List ℕ) → a ++ b ≡ [] → b ≡ []
nothing_more [] b e = e
nothing_more (x ∷ a) b e = absurd cc

-- ---- the opening

-- A beginning of the opening that isn't all of it is too short.
opening_short : (t : List ℕ) → IsProperBeginning IsOpening t → literal_at opening t ≡ Err Short
opening_short t proper = by_read (literal_at opening t) refl
  where
    by_read : (r : Result (List ℕ) Flaw) → literal_at opening t ≡ r → r ≡ Err Short
    by_read (Err Short) is = refl
    by_read (Err Bad) is = absurd (never_both [] Bad (literal_at opening (t ++ proper.0)) (ap (literal_at opening) (proper.2 ∙ sym (append-nil opening)) ∙ literal_again opening []) (literal_bad opening t proper.0 is))
    by_read (Ok rest) is = absurd (proper.1 (longer rest (literal_ok opening t rest is)))
      where
        longer : (rest : List ℕ) → t ≡ opening ++ rest → proper.0 ≡ []
        longer rest e =
            let whole : opening ++ (rest ++ proper.0) ≡ opening = sym (append_assoc opening rest proper.0) ∙ ap (λ (x : List ℕ). x ++ proper.0) (sym e) ∙ proper.2 in
            nothing_more rest proper.0 (behind (rest ++ proper.0) whole)
          where
            behind : (r : List ℕ) → opening ++ r ≡ opening → r ≡ []
            behind [] e = refl
            behind (b ∷ r) e = let n = ap length e in absurd (omega (arith, n, length-append opening (b ∷ r)))

-- What neither begins with the opening nor is a beginning of it is bad.
opening_bad : (t : List ℕ) → (BeginsWith IsOpening t → ⊥) → (IsProperBeginning IsOpening t → ⊥) → literal_at opening t ≡ Err Bad
opening_bad t begins proper = by_read (literal_at opening t) refl
  where
    by_read : (r : Result (List ℕ) Flaw) → literal_at opening t ≡ r → r ≡ Err Bad
    by_read (Err Bad) is = refl
    by_read (Ok rest) is = absurd (begins (opening, rest, refl, literal_ok opening t rest is))
    by_read (Err Short) is = let w = literal_ends opening t is in absurd (proper (w.0, (λ none. begins (opening, [], refl, whole w.0 w.1 none)), w.1))
      where
        whole : (more : List ℕ) → t ++ more ≡ opening → more ≡ [] → t ≡ opening ++ []
        whole more e none = sym (append-nil t) ∙ ap (λ (x : List ℕ). t ++ x) (sym none) ∙ e ∙ sym (append-nil opening)

-- ---- what stands at an entry's place

-- what follows the end, or the header
behind_place : EndOrHead → List ℕ
behind_place (End rest) = rest
behind_place (Entry head) = head.rest

-- What is read at an entry's place is read with bytes after it, too.
place_grows : (t more : List ℕ) (p : EndOrHead) → end_or_head_at t ≡ Ok p → (q : EndOrHead) × (end_or_head_at (t ++ more) ≡ Ok q) × (behind_place q ≡ behind_place p ++ more)
unfolding behind_place
place_grows t more (End rest) e = (End (rest ++ more), ap end_or_head_at (ap (λ (x : List ℕ). x ++ more) ((place_ok t (End rest) e).at_end rest refl) ∙ append_assoc ending rest more) ∙ place_end (rest ++ more), refl)
place_grows t more (Entry head) e =
    let h = (place_ok t (Entry head) e).at_entry head refl in (
      Entry (record { path_len = head.path_len; content_len = head.content_len; rest = head.rest ++ more }),
      ap end_or_head_at (ap (λ (x : List ℕ). x ++ more) h.0 ∙ append_assoc (header head.path_len head.content_len) head.rest more) ∙ place_header head.path_len head.content_len (head.rest ++ more) h.1,
      refl,
    )

-- The end or a header is read, with nothing after it.
place_whole : (t : List ℕ) → IsEndOrHeader t → (q : EndOrHead) × (end_or_head_at t ≡ Ok q) × (behind_place q ≡ [])
unfolding behind_place
place_whole t (inl end) = (End [], ap end_or_head_at (end ∙ sym (append-nil ending)) ∙ place_end [], refl)
place_whole t (inr h) = (Entry (record { path_len = h.0; content_len = h.1; rest = [] }), ap end_or_head_at (h.3 ∙ sym (append-nil (header h.0 h.1))) ∙ place_header h.0 h.1 [] (fit h.0 h.1 h.2), refl)

-- A proper beginning of the end or of a header is too short.
place_short : (t : List ℕ) → IsProperBeginning IsEndOrHeader t → end_or_head_at t ≡ Err Short
place_short t proper = by_read (end_or_head_at t) refl
  where
    by_read : (r : Result EndOrHead Flaw) → end_or_head_at t ≡ r → r ≡ Err Short
    by_read (Err Short) is = refl
    by_read (Err Bad) is = absurd ((bad_place t is).1 proper)
    by_read (Ok p) is =
        let grown = place_grows t proper.0 p is in
        let whole = place_whole (t ++ proper.0) proper.2 in
        let same = same_ok grown.0 whole.0 (end_or_head_at (t ++ proper.0)) grown.1 whole.1 in
        absurd (proper.1 (nothing_more (behind_place p) proper.0 (sym grown.2 ∙ ap behind_place same ∙ whole.2)))

-- What neither begins with the end or a header nor is a beginning of one is bad.
place_bad : (t : List ℕ) → (BeginsWith IsEndOrHeader t → ⊥) → (IsProperBeginning IsEndOrHeader t → ⊥) → end_or_head_at t ≡ Err Bad
place_bad t begins proper = by_read (end_or_head_at t) refl
  where
    by_read : (r : Result EndOrHead Flaw) → end_or_head_at t ≡ r → r ≡ Err Bad
    by_read (Err Bad) is = refl
    by_read (Err Short) is = absurd (proper (short_place t is))
    by_read (Ok (End rest)) is = absurd (begins (ending, rest, inl refl, (place_ok t (End rest) is).at_end rest refl))
    by_read (Ok (Entry head)) is =
        let h = (place_ok t (Entry head) is).at_entry head refl in
        absurd (begins (header head.path_len head.content_len, head.rest, inr (head.path_len, head.content_len, sized head.path_len head.content_len h.1, refl), h.0))

-- ---- an entry after its header

abbrev head_is : ℕ → ℕ → List ℕ → Head
head_is p c rest = record { path_len = p; content_len = c; rest = rest }

-- what is judged after a content
abbrev judged : ℕ → List ℕ → List ℕ → List ℕ → ℕ → List ℕ → Result (File × List ℕ) SetFault
judged offset before path content b more =
    cond (not (eqb b 10)) (Err (BadEntry offset))
    (cond (not (is_good path)) (Err (BadPath offset))
    (cond (not (comes_before before path)) (Err (OutOfOrder offset))
    (Ok (record { path = path; content = content }, more))))

-- an entry that is whole is judged by its last byte, its path and its place
entry_judged : (offset : ℕ) (before path content : List ℕ) (b : ℕ) (more : List ℕ) (p c : ℕ) (rest : List ℕ) → length path ≡ p → length content ≡ c → rest ≡ path ++ content ++ b ∷ more
    → file_at offset before (head_is p c rest) ≡ judged offset before path content b more
unfolding file_at
entry_judged offset before path content b more p c rest pl cl is =
    let all : rest ≡ path ++ (content ++ b ∷ more) = is ∙ append_assoc path content (b ∷ more) in
    let long : ltb (length (path ++ (content ++ b ∷ more))) (p + c + 1) ≡ false = le-ltb _ _ (omega (arith, pl, cl, length-append path (content ++ b ∷ more), length-append content (b ∷ more))) in
    rw (all, long, take_at path (content ++ b ∷ more) p pl, drop_at path (content ++ b ∷ more) p pl, take_at content (b ∷ more) c cl, drop_at content (b ∷ more) c cl) refl

-- A fault of an entry is the one that reading it gives.
file_refused : (offset : ℕ) (before : List ℕ) (head : Head) (f : SetFault) → EntryFault offset before head f → file_at offset before head ≡ Err f
unfolding file_at
file_refused offset before head Truncated short = let is : ltb (length head.rest) (head.path_len + head.content_len + 1) ≡ true = lt-ltb _ _ short in rw is refl
file_refused offset before head (BadEntry n) (at, (path, content, b, more, pl, cl, other, is)) =
    let no : eqb b 10 ≡ false = grind (arith, nat_tests) in
    entry_judged offset before path content b more head.path_len head.content_len head.rest pl cl is ∙ rw (at, no) refl
file_refused offset before head (BadPath n) (at, (path, content, more, pl, cl, is, bad)) =
    entry_judged offset before path content 10 more head.path_len head.content_len head.rest pl cl is ∙ rw (at, bad) refl
file_refused offset before head (OutOfOrder n) (at, (path, content, more, pl, cl, is, good, order)) =
    entry_judged offset before path content 10 more head.path_len head.content_len head.rest pl cl is ∙ rw (at, good, order) refl
file_refused offset before head _ h = absurd h

-- ---- a fault at an entry's place

header_refused : (offset left : ℕ) (before t : List ℕ) (head : Head) (f : SetFault) → IsHeaded head t → 0 < left → EntryFault offset before head f → entry_at offset left before t ≡ Err f
unfolding entry_at
header_refused offset zero before t head f is lt h = absurd (omega arith)
header_refused offset (suc more) before t head f is lt h =
    let fails : file_at offset before (head_is head.path_len head.content_len head.rest) ≡ Err f = file_refused offset before head f h in
    rw (is.text, place_header head.path_len head.content_len head.rest (fit head.path_len head.content_len is.sizes), fails) refl

place_fails : (offset left : ℕ) (before t : List ℕ) (flaw : Flaw) (f : SetFault) → end_or_head_at t ≡ Err flaw → result_at offset (end_or_head_at t) ≡ Err f → entry_at offset left before t ≡ Err f
unfolding entry_at
place_fails offset left before t flaw f e g = rw g refl

too_many : (offset : ℕ) (before t : List ℕ) (head : Head) → IsHeaded head t → entry_at offset zero before t ≡ Err TooManyFiles
unfolding entry_at
too_many offset before t head is = rw (is.text, place_header head.path_len head.content_len head.rest (fit head.path_len head.content_len is.sizes)) refl

trails : (offset left : ℕ) (before t more : List ℕ) → more ≢ [] → t ≡ ending ++ more → entry_at offset left before t ≡ Err TrailingBytes
trails offset left before t [] some is = absurd (some refl)
trails offset left before t (b ∷ more) some is = ap (entry_at offset left before) is ∙ end_trails offset left b before more

-- A fault at an entry's place is the one that reading gives there.
entry_refused : (offset left : ℕ) (before t : List ℕ) (f : SetFault) → PositionFault offset left before t f → entry_at offset left before t ≡ Err f
entry_refused offset left before t Truncated (inl proper) = let is = place_short t proper in place_fails offset left before t Short Truncated is (rw is refl)
entry_refused offset left before t Truncated (inr (head, is, lt, h)) = header_refused offset left before t head Truncated is lt h
entry_refused offset left before t (BadEntry n) (inl (at, begins, proper)) = let is = place_bad t begins proper in place_fails offset left before t Bad (BadEntry n) is (rw (is, at) refl)
entry_refused offset left before t (BadEntry n) (inr (head, is, lt, h)) = header_refused offset left before t head (BadEntry n) is lt h
entry_refused offset left before t TooManyFiles (full, (head, is)) = rw full (too_many offset before t head is)
entry_refused offset left before t TrailingBytes (more, some, is) = trails offset left before t more some is
entry_refused offset left before t f h = header_refused offset left before t h.0 f h.1 h.2 h.3

-- A fault after files without fault is the one that reading them all gives.
files_refused : (whole : ℕ) (fs : List File) (left : ℕ) (before rest : List ℕ) (f : SetFault) → length fs ≤ left → AllByRecursion Fits fs → Ascends before fs
    → PositionFault (whole - length rest) (left - length fs) (last_path before fs) rest f → files_at whole left before (flat_map entry fs ++ rest) ≡ Err f
files_refused whole [] left before rest f few fits up h =
    let same : left - 0 ≡ left = omega arith in
    at_fault whole left before rest f (entry_refused (whole - length rest) left before rest f (subst (λ (n : ℕ). PositionFault (whole - length rest) n before rest f) same h))
files_refused whole (x ∷ fs) zero before rest f few fits up h = absurd (omega arith)
files_refused whole (x ∷ fs) (suc left) before rest f few fits up h =
    let tail = flat_map entry fs ++ rest in
    let one = entry_again (whole - length (entry x ++ tail)) left before x tail fits.0 up.0 in
    let same : suc left - length (x ∷ fs) ≡ left - length fs = omega arith in
    let later = files_refused whole fs left x.path rest f (omega arith) fits.1 up.1 (subst (λ (n : ℕ). PositionFault (whole - length rest) n (last_path x.path fs) rest f) same h) in
    ap (files_at whole (suc left) before) (append_assoc (entry x) (flat_map entry fs) rest) ∙ at_file whole left before (entry x ++ tail) (x, tail) one ∙ rw later refl

-- ---- the whole text

opening_refused : (t : List ℕ) (f : SetFault) → after_opening (literal_at opening t) ≡ Err f → set_of t ≡ Err f
unfolding set_of
opening_refused t f e = rw e refl

body_refused : (t body : List ℕ) (f : SetFault) → t ≡ opening ++ body → files_at (length t) max_files [] body ≡ Err f → set_of t ≡ Err f
unfolding set_of
body_refused t body f is e = let read : literal_at opening t ≡ Ok body = ap (literal_at opening) is ∙ literal_again opening body in rw (read, e) refl

clash_refused : (t body : List ℕ) (files : List File) → t ≡ opening ++ body → files_at (length t) max_files [] body ≡ Ok files → clashes files ≡ true → set_of t ≡ Err PathClash
unfolding set_of
clash_refused t body files is e clash = let read : literal_at opening t ≡ Ok body = ap (literal_at opening) is ∙ literal_again opening body in rw (read, e, clash) refl

going_refused : (t : List ℕ) (f : SetFault) (files : List File) (rest : List ℕ) → GoOn files t rest → PositionFault (length t - length rest) (max_files - length files) (last_path [] files) rest f → set_of t ≡ Err f
going_refused t f files rest on h =
    body_refused t (flat_map entry files ++ rest) f (on.text ∙ append_assoc opening (flat_map entry files) rest) (files_refused (length t) files max_files [] rest f on.few on.each on.ascending h)

-- Where a row of the table stands, reading gives that fault.
pub refuses : (t : List ℕ) (f : SetFault) → FaultIs t f → set_of t ≡ Err f
refuses t BadOpening (begins, proper) = opening_refused t BadOpening (rw (opening_bad t begins proper) refl)
refuses t Truncated (inl proper) = opening_refused t Truncated (rw (opening_short t proper) refl)
refuses t Truncated (inr (files, rest, on, h)) = going_refused t Truncated files rest on h
refuses t PathClash (files, on, clash) =
    clash_refused t (flat_map entry files ++ ending) files (on.text ∙ append_assoc opening (flat_map entry files) ending) (files_again (length t) files max_files [] on.few on.each on.ascending) clash
refuses t f h = going_refused t f h.0 h.1 h.2 h.3

-- ---- the laws of the table

-- A text has at most one fault.
pub one_fault_stands : (t : List ℕ) (f g : SetFault) → FaultIs t f → FaultIs t g → f ≡ g
one_fault_stands t f g a b = same_err f g (set_of t) (refuses t f a) (refuses t g b)

-- The form of a bag has no fault.
pub form_has_none : (files : List File) (f : SetFault) → IsBag files → FaultIs (set_text files) f → ⊥
form_has_none files f bag h = never_both files f (set_of (set_text files)) (set_again files bag) (refuses (set_text files) f h)

-- A text is the form of a bag, or has a fault.
pub form_or_fault : (t : List ℕ) → ((files : List File) × IsBag files × (t ≡ set_text files)) ⊎ ((f : SetFault) × FaultIs t f)
form_or_fault t = by_Result (set_of t) (λ files is. let read = set_ok t files is in inl (files, read.bag, read.text)) (λ f is. inr (f, set_fault t f is))
