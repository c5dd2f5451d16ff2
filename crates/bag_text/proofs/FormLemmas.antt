-- What is read is a transfer form, and a transfer form is read.
use Rattle.bag_text.proofs.FirstLemmas.{and_parts, rows_none, bind_ok, ok_if, ok_unless, never_both, ◌≡◌, ℕ, zero, suc, ◌+◌, ◌-◌, ◌<◌, ◌≤◌, true, false, cond, eqb, ltb, not, List, [], ◌∷◌, ◌++◌, length, get_or, take, drop, refl, sym, ap, subst, ◌∙◌, arith, append_assoc, IfOk, Option, Some, None, is_none, is_utf8, flat_map, AllByRecursion, nat_tests, not-false, eqb-true, ltb-false, le-ltb, append-nil, take_at, drop_at, take-append-drop, length-append, length-take, length-drop, drop_more, Flaw, Short, Bad, SetFault, BadEntry, Truncated, OutOfOrder, BadPath, TrailingBytes, PathClash, path_fault, ◌>>=◌, Gives, EndOrHead, End, Entry, literal_at, header_at, end_or_head_at, file_at, result_at, entry_at, files_at, after_opening, set_of, named_set_fault, File, Head, header, entry, opening, ending, set_text, max_content, max_files, Ascends, clashes, Fits, IsBag, max_path, is_good, comes_before, Result, Ok, Err, ok_is, InBounds, HeadFits, literal_ok, literal_again, header_ok, header_again}
use Rattle.bag_text.specs.TransferReading.{entry_of}
use Rattle.bag_text.proofs.CaseLemmas.{by_Bool}
use Rattle.bag_text.proofs.ResultLemmas.{is_nothing}

-- a file with its bytes in place
pub record BeginsWithFile (before rest : List ℕ) (head : Head) (f : File) (behind : List ℕ) : Type 0 where
  pub bytes : rest ≡ f.path ++ (f.content ++ 10 ∷ behind)
  pub path_len : length f.path ≡ head.path_len
  pub content_len : length f.content ≡ head.content_len
  pub good : is_good f.path ≡ true
  pub after : comes_before before f.path ≡ true

pub file_ok : (offset : ℕ) (before : List ℕ) (head : Head) (x : File × List ℕ) → file_at offset before head ≡ Ok x → BeginsWithFile before head.rest head x.0 x.1
unfolding file_at
file_ok offset before head x e =
    let path = take head.path_len head.rest in
    let content = take head.content_len (drop head.path_len head.rest) in
    let behind = drop head.content_len (drop head.path_len head.rest) in
    let made : File × List ℕ = (record { path = path; content = content }, drop 1 behind) in
    let g1 = ok_unless (ltb (length head.rest) (head.path_len + head.content_len + 1)) Truncated (cond (not (eqb (get_or behind 0 0) 10)) (Err (BadEntry offset)) (cond (not (is_good path)) (Err (BadPath offset)) (cond (not (comes_before before path)) (Err (OutOfOrder offset)) (Ok made)))) x e in
    let g2 = ok_unless (not (eqb (get_or behind 0 0) 10)) (BadEntry offset) (cond (not (is_good path)) (Err (BadPath offset)) (cond (not (comes_before before path)) (Err (OutOfOrder offset)) (Ok made))) x g1.1 in
    let g3 = ok_unless (not (is_good path)) (BadPath offset) (cond (not (comes_before before path)) (Err (OutOfOrder offset)) (Ok made)) x g2.1 in
    let g4 = ok_unless (not (comes_before before path)) (OutOfOrder offset) (Ok made) x g3.1 in
    let long : head.path_len + head.content_len + 1 ≤ length head.rest = ltb-false _ _ g1.0 in
    let lf : get_or behind 0 0 ≡ 10 = eqb-true _ _ (not-false _ g2.0) in
    let some : 0 < length behind = omega (arith, length-drop head.content_len (drop head.path_len head.rest), length-drop head.path_len head.rest) in
    let last : behind ≡ 10 ∷ drop 1 behind = drop_more behind 0 0 some ∙ ap (λ (b : ℕ). b ∷ drop 1 behind) lf in
    let two : drop head.path_len head.rest ≡ content ++ 10 ∷ drop 1 behind = sym (take-append-drop head.content_len (drop head.path_len head.rest)) ∙ ap (λ (t : List ℕ). content ++ t) last in
    let whole : head.rest ≡ path ++ (content ++ 10 ∷ drop 1 behind) = sym (take-append-drop head.path_len head.rest) ∙ ap (λ (t : List ℕ). path ++ t) two in
    subst (λ (y : File × List ℕ). BeginsWithFile before head.rest head y.0 y.1) (ok_is made x g4.1) (record {
      bytes = whole;
      path_len = omega (arith, length-take head.path_len head.rest);
      content_len = omega (arith, length-take head.content_len (drop head.path_len head.rest), length-drop head.path_len head.rest);
      good = not-false _ g3.0;
      after = not-false _ g4.0;
    })

pub file_again : (offset : ℕ) (before : List ℕ) (f : File) (behind : List ℕ) → is_good f.path ≡ true → comes_before before f.path ≡ true
    → file_at offset before (record { path_len = length f.path; content_len = length f.content; rest = f.path ++ (f.content ++ 10 ∷ behind) }) ≡ Ok (f, behind)
unfolding file_at
file_again offset before f behind good after =
    let long : ltb (length (f.path ++ (f.content ++ 10 ∷ behind))) (length f.path + length f.content + 1) ≡ false = le-ltb _ _ (omega (arith, length-append f.path (f.content ++ 10 ∷ behind), length-append f.content (10 ∷ behind))) in
    rw (long, take_at f.path (f.content ++ 10 ∷ behind) (length f.path) refl, drop_at f.path (f.content ++ 10 ∷ behind) (length f.path) refl, take_at f.content (10 ∷ behind) (length f.content) refl, drop_at f.content (10 ∷ behind) (length f.content) refl, good, after) refl

-- ---- a good path has a length that a header can name

pub path_fits : (path : List ℕ) → is_good path ≡ true → InBounds 1 max_path (length path)
path_fits path e =
    let rows = rows_none path (is_nothing (path_fault path) (and_parts (is_utf8 path) (is_none (path_fault path)) e).1) in
    record { low = grind (arith, nat_tests, rows.some); high = ltb-false max_path (length path) rows.short }

-- ---- the entry that a text begins with

pub end_again : (offset left : ℕ) (before : List ℕ) → entry_at offset left before ending ≡ Ok None
unfolding entry_at end_or_head_at literal_at
end_again offset zero before = refl
end_again offset (suc left) before = refl

entry_bytes : (f : File) (rest : List ℕ) → entry f ++ rest ≡ header (length f.path) (length f.content) ++ (f.path ++ (f.content ++ 10 ∷ rest))
entry_bytes f rest = simp append_assoc

pub place_header : (p c : ℕ) (rest : List ℕ) → HeadFits p c → end_or_head_at (header p c ++ rest) ≡ Ok (Entry (record { path_len = p; content_len = c; rest = rest }))
unfolding end_or_head_at
place_header p c rest fits = rw (header_again p c rest fits) refl

pub entry_again : (offset more : ℕ) (before : List ℕ) (f : File) (rest : List ℕ) → Fits f → comes_before before f.path ≡ true → entry_at offset (suc more) before (entry f ++ rest) ≡ Ok (Some (f, rest))
unfolding entry_at
entry_again offset more before f rest fits after =
    let head : HeadFits (length f.path) (length f.content) = record { path = path_fits f.path fits.good; content = record { low = omega arith; high = fits.small } } in
    let place : end_or_head_at (entry f ++ rest) ≡ Ok (Entry (record { path_len = length f.path; content_len = length f.content; rest = f.path ++ (f.content ++ 10 ∷ rest) })) = ap end_or_head_at (entry_bytes f rest) ∙ place_header (length f.path) (length f.content) (f.path ++ (f.content ++ 10 ∷ rest)) head in
    ap (λ (p : Result EndOrHead Flaw). result_at offset p >>= entry_of offset (suc more) before) place ∙ rw (file_again offset before f rest fits.good after) refl

pub files_again : (whole : ℕ) (fs : List File) (left : ℕ) (before : List ℕ) → length fs ≤ left → AllByRecursion Fits fs → Ascends before fs → files_at whole left before (flat_map entry fs ++ ending) ≡ Ok fs
unfolding files_at
files_again whole [] zero before few fits up = rw (end_again (whole - length ending) zero before) refl
files_again whole [] (suc left) before few fits up = rw (end_again (whole - length ending) (suc left) before) refl
files_again whole (f ∷ fs) zero before few fits up = absurd (omega arith)
files_again whole (f ∷ fs) (suc left) before few fits up =
    let tail = flat_map entry fs ++ ending in
    let one = entry_again (whole - length (entry f ++ tail)) left before f tail fits.0 up.0 in
    let e : entry f ++ flat_map entry fs ++ ending ≡ entry f ++ tail = append_assoc (entry f) (flat_map entry fs) ending in
    ap (files_at whole (suc left) before) e ∙ rw (one, files_again whole fs left f.path (omega arith) fits.1 up.1) refl

pub set_again : (fs : List File) → IsBag fs → set_of (set_text fs) ≡ Ok fs
unfolding set_of
set_again fs bag =
    let e : set_text fs ≡ opening ++ (flat_map entry fs ++ ending) = append_assoc opening (flat_map entry fs) ending in
    ap set_of e ∙ rw (literal_again opening (flat_map entry fs ++ ending), files_again (length (opening ++ (flat_map entry fs ++ ending))) fs max_files [] bag.few bag.each bag.ascending, bag.apart) refl

-- ---- what is read

pub record IsPlace (t : List ℕ) (p : EndOrHead) : Type 0 where
  pub at_end : (rest : List ℕ) → p ≡ End rest → t ≡ ending ++ rest
  pub at_entry : (head : Head) → p ≡ Entry head → (t ≡ header head.path_len head.content_len ++ head.rest) × HeadFits head.path_len head.content_len

pub place_ok : (t : List ℕ) (p : EndOrHead) → end_or_head_at t ≡ Ok p → IsPlace t p
unfolding end_or_head_at
place_ok [] p e = absurd cc
place_ok (b ∷ t) p e = by_Bool (eqb b 69)
    (λ is.
    let read = bind_ok (literal_at ending (b ∷ t)) (λ rest. Ok (End rest)) p (rw is at e) in
    subst (λ (p : EndOrHead). IsPlace (b ∷ t) p) (ok_is (End read.0) p read.2) (record {
      at_end = λ other same. literal_ok ending (b ∷ t) other (read.1 ∙ (let k : read.0 ≡ other = cc in rw k refl));
      at_entry = λ head same. absurd cc;
    }))
    (λ is.
    let read = bind_ok (header_at (b ∷ t)) (λ head. Ok (Entry head)) p (rw is at e) in
    subst (λ (p : EndOrHead). IsPlace (b ∷ t) p) (ok_is (Entry read.0) p read.2) (record {
      at_end = λ rest same. absurd cc;
      at_entry = λ other same. header_ok (b ∷ t) other (read.1 ∙ (let k : read.0 ≡ other = cc in rw k refl));
    }))

-- what stands at an entry's place, from what the entry is
pub record IsEntry (before t : List ℕ) (o : Option (File × List ℕ)) : Type 0 where
  pub none : o ≡ None → t ≡ ending
  pub some : (x : File × List ℕ) → o ≡ Some x → (t ≡ entry x.0 ++ x.1) × Fits x.0 × (comes_before before x.0.path ≡ true)

entry_whole : (offset : ℕ) (before t : List ℕ) (head : Head) (x : File × List ℕ) → (t ≡ header head.path_len head.content_len ++ head.rest) × HeadFits head.path_len head.content_len → file_at offset before head ≡ Ok x
    → (t ≡ entry x.0 ++ x.1) × Fits x.0 × (comes_before before x.0.path ≡ true)
entry_whole offset before t head x is e =
    let s = file_ok offset before head x e in
    let small : length x.0.content ≤ max_content = (let k = is.1.content.high in let j = s.content_len in omega arith) in (
      is.0 ∙ rw (← s.path_len, ← s.content_len) (ap (λ (r : List ℕ). header (length x.0.path) (length x.0.content) ++ r) s.bytes ∙ sym (entry_bytes x.0 x.1)),
      record { good = s.good; small = small },
      s.after,
    )

pub entry_ok : (offset left : ℕ) (before t : List ℕ) (o : Option (File × List ℕ)) → entry_at offset left before t ≡ Ok o → IsEntry before t o
unfolding entry_at
entry_ok offset left before t o e = by_place left (end_or_head_at t) refl e
  where
    by_place : (left : ℕ) (r : Result EndOrHead Flaw) → end_or_head_at t ≡ r → (result_at offset r >>= entry_of offset left before) ≡ Ok o → IsEntry before t o
    by_place left (Err f) is e = absurd cc
    by_place left (Ok (End rest)) is e = by_rest rest is e
      where
        by_rest : (rest : List ℕ) → end_or_head_at t ≡ Ok (End rest) → (cond (eqb (length rest) 0) (Ok None) (Err TrailingBytes)) ≡ Ok o → IsEntry before t o
        by_rest [] is e = subst (λ (o : Option (File × List ℕ)). IsEntry before t o) (ok_is None o e) (record {
          none = λ _. (place_ok t (End []) is).at_end [] refl ∙ append-nil ending;
          some = λ x same. absurd cc;
        })
        by_rest (b ∷ rest) is e =
            let none : length (b ∷ rest) ≡ 0 = eqb-true _ _ (ok_if (eqb (length (b ∷ rest)) 0) (Ok None) TrailingBytes o e).0 in absurd (omega arith)
    by_place zero (Ok (Entry head)) is e = absurd cc
    by_place (suc more) (Ok (Entry head)) is e =
        let read = bind_ok (file_at offset before head) (λ file. Ok (Some file)) o e in
        subst (λ (o : Option (File × List ℕ)). IsEntry before t o) (ok_is (Some read.0) o read.2) (record {
          none = λ same. absurd cc;
          some = λ y same. entry_whole offset before t head y ((place_ok t (Entry head) is).at_entry head refl) (read.1 ∙ (let k : read.0 ≡ y = cc in rw k refl));
        })

no_file_past_limit : (offset : ℕ) (before text : List ℕ) (file : File × List ℕ) → entry_at offset 0 before text ≡ Ok (Some file) → ⊥
unfolding entry_at
no_file_past_limit offset before text file e = by_place (end_or_head_at text) e
  where
    by_place : (p : Result EndOrHead Flaw) → (result_at offset p >>= entry_of offset 0 before) ≡ Ok (Some file) → ⊥
    by_place (Ok (End rest)) h = let wrong = (ok_if (eqb (length rest) 0) (Ok None) TrailingBytes (Some file) h).1 in absurd cc
    by_place (Ok (Entry head)) h = absurd cc
    by_place (Err flaw) h = absurd cc

pub record AreFiles (left : ℕ) (before t : List ℕ) (fs : List File) : Type 0 where
  pub text : t ≡ flat_map entry fs ++ ending
  pub few : length fs ≤ left
  pub each : AllByRecursion Fits fs
  pub up : Ascends before fs

pub files_ok : (whole left : ℕ) (before t : List ℕ) (fs : List File) → files_at whole left before t ≡ Ok fs → AreFiles left before t fs
unfolding files_at
files_ok whole zero before t fs e = by_entry (entry_at (whole - length t) zero before t) refl e
  where
    by_entry : (r : Result (Option (File × List ℕ)) SetFault) → entry_at (whole - length t) zero before t ≡ r → (r >>= λ found. Ok []) ≡ Ok fs → AreFiles zero before t fs
    by_entry (Err f) is e = absurd cc
    by_entry (Ok None) is e = subst (λ (fs : List File). AreFiles zero before t fs) (ok_is [] fs e) (record { text = (entry_ok (whole - length t) zero before t None is).none refl; few = omega arith; each = tt; up = tt })
    by_entry (Ok (Some x)) is e = absurd (no_file_past_limit (whole - length t) before t x is)
files_ok whole (suc more) before t fs e = by_entry (entry_at (whole - length t) (suc more) before t) refl e (λ x rest g. files_ok whole more x.0.path x.1 rest g)
  where
    by_entry : (r : Result (Option (File × List ℕ)) SetFault) → entry_at (whole - length t) (suc more) before t ≡ r
        → (r >>= λ found. elim found [ None ↦ Ok [] | Some file ↦ files_at whole more file.0.path file.1 >>= λ files. Ok (file.0 ∷ files) ]) ≡ Ok fs
        → ((x : File × List ℕ) (rest : List File) → files_at whole more x.0.path x.1 ≡ Ok rest → AreFiles more x.0.path x.1 rest)
        → AreFiles (suc more) before t fs
    by_entry (Err f) is e again = absurd cc
    by_entry (Ok None) is e again = subst (λ (fs : List File). AreFiles (suc more) before t fs) (ok_is [] fs e) (record { text = (entry_ok (whole - length t) (suc more) before t None is).none refl; few = omega arith; each = tt; up = tt })
    by_entry (Ok (Some x)) is e again =
        let read = bind_ok (files_at whole more x.0.path x.1) (λ files. Ok (x.0 ∷ files)) fs e in
        let first = (entry_ok (whole - length t) (suc more) before t (Some x) is).some x refl in
        let others = again x read.0 read.1 in
        subst (λ (fs : List File). AreFiles (suc more) before t fs) (ok_is (x.0 ∷ read.0) fs read.2) (record {
          text = first.0 ∙ ap (λ (r : List ℕ). entry x.0 ++ r) others.text ∙ sym (append_assoc (entry x.0) (flat_map entry read.0) ending);
          few = (let k = others.few in omega arith);
          each = (first.1, others.each);
          up = (first.2, others.up);
        })

pub record IsRead (t : List ℕ) (fs : List File) : Type 0 where
  pub text : t ≡ set_text fs
  pub bag : IsBag fs

pub set_ok : (t : List ℕ) (fs : List File) → set_of t ≡ Ok fs → IsRead t fs
unfolding set_of
set_ok t fs e = by_opening (literal_at opening t) refl e
  where
    by_opening : (r : Result (List ℕ) Flaw) → literal_at opening t ≡ r → (after_opening r >>= λ rest. files_at (length t) max_files [] rest >>= λ files. cond (clashes files) (Err PathClash) (Ok files)) ≡ Ok fs → IsRead t fs
    by_opening (Err Short) is e = absurd cc
    by_opening (Err Bad) is e = absurd cc
    by_opening (Ok rest) is e =
        let read = bind_ok (files_at (length t) max_files [] rest) (λ files. cond (clashes files) (Err PathClash) (Ok files)) fs e in
        let g = ok_unless (clashes read.0) PathClash (Ok read.0) fs read.2 in
        let r = files_ok (length t) max_files [] rest read.0 read.1 in
        subst (λ (fs : List File). IsRead t fs) (ok_is read.0 fs g.1) (record {
          text = literal_ok opening t rest is ∙ ap (λ (r : List ℕ). opening ++ r) r.text ∙ sym (append_assoc opening (flat_map entry read.0) ending);
          bag = record { few = r.few; each = r.each; ascending = r.up; apart = g.0 };
        })

-- what a call that gives the files found
pub is_found : {X : Type 0} (t : List ℕ) (view : X → List File) (r : Result X SetFault) → Gives named_set_fault view r (set_of t) → IfOk r (λ x. IsBag (view x) × (t ≡ set_text (view x)))
is_found t view (Ok x) e = let r = set_ok t (view x) e in (r.bag, r.text)
is_found t view (Err f) e = tt

pub two_texts : (a b : List File) → IsBag a → IsBag b → set_text a ≡ set_text b → a ≡ b
two_texts a b p q same = ok_is a b (sym (set_again a p) ∙ ap set_of same ∙ set_again b q)

-- ---- no text begins another

not_nil : (b : ℕ) (more : List ℕ) → eqb (length (b ∷ more)) 0 ≡ false
not_nil b more = let some : 0 < length (b ∷ more) = omega arith in grind (arith, nat_tests)

pub end_trails : (offset left b : ℕ) (before more : List ℕ) → entry_at offset left before (ending ++ b ∷ more) ≡ Err TrailingBytes
unfolding entry_at end_or_head_at literal_at
end_trails offset zero b before more = rw (not_nil b more) refl
end_trails offset (suc left) b before more = rw (not_nil b more) refl

files_trail : (whole b : ℕ) (more : List ℕ) (fs : List File) (left : ℕ) (before : List ℕ) → length fs ≤ left → AllByRecursion Fits fs → Ascends before fs → files_at whole left before (flat_map entry fs ++ (ending ++ b ∷ more)) ≡ Err TrailingBytes
unfolding files_at
files_trail whole b more [] zero before few fits up = rw (end_trails (whole - length (ending ++ b ∷ more)) zero b before more) refl
files_trail whole b more [] (suc left) before few fits up = rw (end_trails (whole - length (ending ++ b ∷ more)) (suc left) b before more) refl
files_trail whole b more (f ∷ fs) zero before few fits up = absurd (omega arith)
files_trail whole b more (f ∷ fs) (suc left) before few fits up =
    let tail = flat_map entry fs ++ (ending ++ b ∷ more) in
    let one = entry_again (whole - length (entry f ++ tail)) left before f tail fits.0 up.0 in
    let e : entry f ++ flat_map entry fs ++ (ending ++ b ∷ more) ≡ entry f ++ tail = append_assoc (entry f) (flat_map entry fs) (ending ++ b ∷ more) in
    ap (files_at whole (suc left) before) e ∙ rw (one, files_trail whole b more fs left f.path (omega arith) fits.1 up.1) refl

set_trails : (fs : List File) (b : ℕ) (more : List ℕ) → IsBag fs → set_of (set_text fs ++ b ∷ more) ≡ Err TrailingBytes
unfolding set_of
set_trails fs b more bag =
    let e : set_text fs ++ b ∷ more ≡ opening ++ (flat_map entry fs ++ (ending ++ b ∷ more)) = simp append_assoc in
    ap set_of e ∙ rw (literal_again opening (flat_map entry fs ++ (ending ++ b ∷ more)), files_trail (length (opening ++ (flat_map entry fs ++ (ending ++ b ∷ more)))) b more fs max_files [] bag.few bag.each bag.ascending) refl

pub none_begins : (x y : List File) → IsBag x → IsBag y → (more : List ℕ) → set_text x ≡ set_text y ++ more → more ≡ []
none_begins x y p q [] same = refl
none_begins x y p q (b ∷ more) same =
    absurd (never_both x TrailingBytes (set_of (set_text x)) (set_again x p) (ap set_of same ∙ set_trails y b more q))
