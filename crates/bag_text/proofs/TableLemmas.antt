-- A fault that reading gives is the one of the table.
use Rattle.bag_text.proofs.FirstLemmas.{not-true, err_if, err_unless, err_through, never_both, ◌≡◌, ℕ, zero, suc, ◌+◌, ◌-◌, ◌<◌, ◌≤◌, ◌≢◌, inl, inr, Bool, true, false, cond, eqb, ltb, not, List, [], ◌∷◌, ◌++◌, length, get_or, take, drop, refl, sym, ap, subst, ◌∙◌, arith, append_assoc, Option, Some, None, IfErr, flat_map, AllByRecursion, nat_tests, eqb-true, ltb-true, ltb-false, append-nil, take-append-drop, length-take, length-drop, drop_more, Flaw, Short, Bad, SetFault, BadOpening, BadEntry, Truncated, OutOfOrder, BadPath, TooManyFiles, TrailingBytes, PathClash, Memory, ◌>>=◌, Gives, EndOrHead, End, Entry, literal_at, end_or_head_at, file_at, result_at, entry_at, files_at, after_opening, set_of, named_set_fault, File, Head, entry, opening, ending, max_files, Ascends, clashes, Fits, is_good, comes_before, IsHeaded, EntryFault, PositionFault, last_path, GoOn, FaultIs, Result, Ok, Err, err_is, literal_ok, literal_again, literal_ends, literal_bad}
use Rattle.bag_text.specs.TransferReading.{entry_of}
use Rattle.bag_text.proofs.FormLemmas.{place_ok, entry_ok, files_ok}
use Rattle.bag_text.proofs.FaultLemmas.{sized, short_place, bad_place}
use Rattle.bag_text.proofs.CaseLemmas.{by_Result}

pub file_fault : (offset : ℕ) (before : List ℕ) (head : Head) (f : SetFault) → file_at offset before head ≡ Err f → EntryFault offset before head f
unfolding file_at
file_fault offset before head f e = by_length (ltb (length head.rest) (head.path_len + head.content_len + 1)) refl e
  where
    path : List ℕ
    path = take head.path_len head.rest

    content : List ℕ
    content = take head.content_len (drop head.path_len head.rest)

    behind : List ℕ
    behind = drop head.content_len (drop head.path_len head.rest)

    made : File × List ℕ
    made = (record { path = path; content = content }, drop 1 behind)

    Is : SetFault → Type 0
    Is f = EntryFault offset before head f

    by_length : (x : Bool) → ltb (length head.rest) (head.path_len + head.content_len + 1) ≡ x → cond x (Err Truncated) (cond (not (eqb (get_or behind 0 0) 10)) (Err (BadEntry offset)) (cond (not (is_good path)) (Err (BadPath offset)) (cond (not (comes_before before path)) (Err (OutOfOrder offset)) (Ok made)))) ≡ Err f → Is f
    by_length true is e = subst Is (err_is Truncated f e) (ltb-true _ _ is)
    by_length false is e = by_end (eqb (get_or behind 0 0) 10) refl e
      where
        long : head.path_len + head.content_len + 1 ≤ length head.rest
        long = ltb-false _ _ is

        some : 0 < length behind
        some = omega (arith, long, length-drop head.content_len (drop head.path_len head.rest), length-drop head.path_len head.rest)

        path_len : length path ≡ head.path_len
        path_len = omega (arith, long, length-take head.path_len head.rest)

        content_len : length content ≡ head.content_len
        content_len = omega (arith, long, length-take head.content_len (drop head.path_len head.rest), length-drop head.path_len head.rest)

        whole : (b : ℕ) → get_or behind 0 0 ≡ b → head.rest ≡ path ++ content ++ b ∷ drop 1 behind
        whole b is =
            let last : behind ≡ b ∷ drop 1 behind = drop_more behind 0 0 some ∙ ap (λ (x : ℕ). x ∷ drop 1 behind) is in
            let two : drop head.path_len head.rest ≡ content ++ b ∷ drop 1 behind = sym (take-append-drop head.content_len (drop head.path_len head.rest)) ∙ ap (λ (t : List ℕ). content ++ t) last in
            sym (take-append-drop head.path_len head.rest) ∙ ap (λ (t : List ℕ). path ++ t) two ∙ sym (append_assoc path content (b ∷ drop 1 behind))

        by_end : (x : Bool) → eqb (get_or behind 0 0) 10 ≡ x → cond (not x) (Err (BadEntry offset)) (cond (not (is_good path)) (Err (BadPath offset)) (cond (not (comes_before before path)) (Err (OutOfOrder offset)) (Ok made))) ≡ Err f → Is f
        by_end false is2 e = subst Is (err_is (BadEntry offset) f e) (refl, (path, content, get_or behind 0 0, drop 1 behind, path_len, content_len, grind (arith, nat_tests), whole (get_or behind 0 0) refl))
        by_end true is2 e = by_path (is_good path) refl e
          where
            by_path : (x : Bool) → is_good path ≡ x → cond (not x) (Err (BadPath offset)) (cond (not (comes_before before path)) (Err (OutOfOrder offset)) (Ok made)) ≡ Err f → Is f
            by_path false is3 e = subst Is (err_is (BadPath offset) f e) (refl, (path, content, drop 1 behind, path_len, content_len, whole 10 (eqb-true _ _ is2), is3))
            by_path true is3 e =
                let order = err_if (not (comes_before before path)) (OutOfOrder offset) made f e in
                subst Is order.1 (refl, (path, content, drop 1 behind, path_len, content_len, whole 10 (eqb-true _ _ is2), is3, not-true _ order.0))

of_entry : (offset left : ℕ) (before t : List ℕ) (head : Head) (f : SetFault) → IsHeaded head t → 0 < left → EntryFault offset before head f → PositionFault offset left before t f
of_entry offset left before t head Truncated is lt h = inr (head, is, lt, h)
of_entry offset left before t head (BadEntry n) is lt h = inr (head, is, lt, h)
of_entry offset left before t head TooManyFiles is lt h = absurd h
of_entry offset left before t head TrailingBytes is lt h = absurd h
of_entry offset left before t head _ is lt h = (head, is, lt, h)

pub entry_fault : (offset left : ℕ) (before t : List ℕ) (f : SetFault) → entry_at offset left before t ≡ Err f → PositionFault offset left before t f
unfolding entry_at
entry_fault offset left before t f e = by_place left (end_or_head_at t) refl e
  where
    by_place : (left : ℕ) (r : Result EndOrHead Flaw) → end_or_head_at t ≡ r → (result_at offset r >>= entry_of offset left before) ≡ Err f → PositionFault offset left before t f
    by_place left (Err Short) is e = subst (λ (f : SetFault). PositionFault offset left before t f) (err_is Truncated f e) (inl (short_place t is))
    by_place left (Err Bad) is e = let b = bad_place t is in subst (λ (f : SetFault). PositionFault offset left before t f) (err_is (BadEntry offset) f e) (inl (refl, b.0, b.1))
    by_place left (Ok (End [])) is e = absurd cc
    by_place left (Ok (End (b ∷ rest))) is e =
        subst (λ (f : SetFault). PositionFault offset left before t f) (err_unless (eqb (length (b ∷ rest)) 0) None TrailingBytes f e).1 (b ∷ rest, (λ none. absurd cc), (place_ok t (End (b ∷ rest)) is).at_end (b ∷ rest) refl)
    by_place zero (Ok (Entry head)) is e =
        let h = (place_ok t (Entry head) is).at_entry head refl in
        subst (λ (f : SetFault). PositionFault offset zero before t f) (err_is TooManyFiles f e) (refl, (head, record { sizes = sized head.path_len head.content_len h.1; text = h.0 }))
    by_place (suc more) (Ok (Entry head)) is e =
        let h = (place_ok t (Entry head) is).at_entry head refl in
        of_entry offset (suc more) before t head f (record { sizes = sized head.path_len head.content_len h.1; text = h.0 }) (omega arith) (file_fault offset before head f (err_through (file_at offset before head) (λ file. Some file) f e))

-- files without fault, and a fault in what follows them
pub record Later (whole left : ℕ) (before t : List ℕ) (f : SetFault) : Type 0 where
  pub files : List File
  pub rest : List ℕ
  pub text : t ≡ flat_map entry files ++ rest
  pub few : length files ≤ left
  pub each : AllByRecursion Fits files
  pub up : Ascends before files
  pub fault : PositionFault (whole - length rest) (left - length files) (last_path before files) rest f

here : (whole left : ℕ) (before t : List ℕ) (f : SetFault) → entry_at (whole - length t) left before t ≡ Err f → Later whole left before t f
here whole left before t f e = let same : left - 0 ≡ left = omega arith in record { files = []; rest = t; text = refl; few = omega arith; each = tt; up = tt; fault = subst (λ (n : ℕ). PositionFault (whole - length t) n before t f) (sym same) (entry_fault (whole - length t) left before t f e) }

after_one : (whole more : ℕ) (before t : List ℕ) (x : File × List ℕ) (f : SetFault) → entry_at (whole - length t) (suc more) before t ≡ Ok (Some x) → Later whole more x.0.path x.1 f → Later whole (suc more) before t f
after_one whole more before t x f e later =
    let first = (entry_ok (whole - length t) (suc more) before t (Some x) e).some x refl in
    let few = later.few in
    let less : suc more - (length later.files + 1) ≡ more - length later.files = omega arith in
    let same : suc more - length (x.0 ∷ later.files) ≡ more - length later.files = omega arith in
    record {
      files = x.0 ∷ later.files;
      rest = later.rest;
      text = first.0 ∙ ap (λ (r : List ℕ). entry x.0 ++ r) later.text ∙ sym (append_assoc (entry x.0) (flat_map entry later.files) later.rest);
      few = omega arith;
      each = (first.1, later.each);
      up = (first.2, later.up);
      fault = subst (λ (n : ℕ). PositionFault (whole - length later.rest) n (last_path x.0.path later.files) later.rest f) (sym same) later.fault;
    }

pub files_fault : (whole left : ℕ) (before t : List ℕ) (f : SetFault) → files_at whole left before t ≡ Err f → Later whole left before t f
unfolding files_at
files_fault whole zero before t f e =
    here whole zero before t f (err_through {B = List File} (entry_at (whole - length t) zero before t) (λ found. []) f e)
files_fault whole (suc more) before t f e = by_entry (entry_at (whole - length t) (suc more) before t) refl e (λ x g. files_fault whole more x.0.path x.1 f g)
  where
    by_entry : (r : Result (Option (File × List ℕ)) SetFault) → entry_at (whole - length t) (suc more) before t ≡ r
        → (r >>= λ found. elim found as (λ o. Result (List File) SetFault) [ None ↦ Ok [] | Some file ↦ files_at whole more file.0.path file.1 >>= λ files. Ok (file.0 ∷ files) ]) ≡ Err f
        → ((x : File × List ℕ) → files_at whole more x.0.path x.1 ≡ Err f → Later whole more x.0.path x.1 f)
        → Later whole (suc more) before t f
    by_entry (Err g) is e again = here whole (suc more) before t f (is ∙ (let k : g ≡ f = cc in rw k refl))
    by_entry (Ok None) is e again = absurd cc
    by_entry (Ok (Some x)) is e again = after_one whole more before t x f is (again x (err_through (files_at whole more x.0.path x.1) (λ files. x.0 ∷ files) f e))

going_on : (t body : List ℕ) (f : SetFault) (later : Later (length t) max_files [] body f) → t ≡ opening ++ body → GoOn later.files t later.rest
going_on t body f later is = record { text = is ∙ ap (λ (r : List ℕ). opening ++ r) later.text ∙ sym (append_assoc opening (flat_map entry later.files) later.rest); few = later.few; each = later.each; ascending = later.up }

of_later : (t body : List ℕ) (f : SetFault) (later : Later (length t) max_files [] body f) → t ≡ opening ++ body → FaultIs t f
of_later t body BadOpening later is = absurd later.fault.3
of_later t body PathClash later is = absurd later.fault.3
of_later t body Truncated later is = inr (later.files, later.rest, going_on t body Truncated later is, later.fault)
of_later t body f later is = (later.files, later.rest, going_on t body f later is, later.fault)

not_both : (t rest : List ℕ) (flaw : Flaw) → literal_at opening t ≡ Err flaw → t ≡ opening ++ rest → ⊥
not_both t rest flaw e is = never_both rest flaw (literal_at opening t) (ap (literal_at opening) is ∙ literal_again opening rest) e

-- The fault of a text is a row of the table.
pub set_fault : (t : List ℕ) (f : SetFault) → set_of t ≡ Err f → FaultIs t f
unfolding set_of
set_fault t f e = by_opening (literal_at opening t) refl e
  where
    by_opening : (r : Result (List ℕ) Flaw) → literal_at opening t ≡ r → (after_opening r >>= λ rest. files_at (length t) max_files [] rest >>= λ files. cond (clashes files) (Err PathClash) (Ok files)) ≡ Err f → FaultIs t f
    by_opening (Err Short) is e =
        let w = literal_ends opening t is in
        subst (λ (f : SetFault). FaultIs t f) (err_is Truncated f e) (inl (w.0, (λ none. not_both t [] Short is (sym (append-nil t) ∙ ap (λ (x : List ℕ). t ++ x) (sym none) ∙ w.1 ∙ sym (append-nil opening))), w.1))
    by_opening (Err Bad) is e =
        subst (λ (f : SetFault). FaultIs t f) (err_is BadOpening f e) (
          (λ b. not_both t b.1 Bad is (b.3 ∙ ap (λ (x : List ℕ). x ++ b.1) b.2)),
          (λ b. not_both (t ++ b.0) [] Bad (literal_bad opening t b.0 is) (b.2 ∙ sym (append-nil opening))),
        )
    by_opening (Ok rest) is e = by_Result (files_at (length t) max_files [] rest)
        (λ files is2.
        let clash = err_if (clashes files) PathClash files f (rw is2 at e) in
        let r = files_ok (length t) max_files [] rest files is2 in
        subst (λ (f : SetFault). FaultIs t f) clash.1 (files, record { text = literal_ok opening t rest is ∙ ap (λ (x : List ℕ). opening ++ x) r.text ∙ sym (append_assoc opening (flat_map entry files) ending); few = r.few; each = r.each; ascending = r.up }, clash.0))
        (λ g is2. of_later t rest f (files_fault (length t) max_files [] rest f (is2 ∙ rw is2 at e)) (literal_ok opening t rest is))

pub is_fault : {X : Type 0} (t : List ℕ) (view : X → List File) (r : Result X SetFault) → Gives named_set_fault view r (set_of t) → IfErr r (λ f. f ≢ Memory → FaultIs t f)
is_fault t view (Ok x) e = tt
is_fault t view (Err Memory) e = λ other. absurd (other refl)
is_fault t view (Err f) e = λ other. set_fault t f e
