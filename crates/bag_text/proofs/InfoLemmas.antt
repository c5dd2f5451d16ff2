-- What `bag-info.txt` says, and its first fault.
use Rattle.bag_text.proofs.FirstLemmas.{inl, inr, cases_Bool, false_from_ne_true, true_from_ne_false, false≢true, not-false, eqb-true, bind_ok, ok_unless, ok_is, never_both, ◌≡◌, one-add, ℕ, suc, ◌+◌, true, false, cond, eqb, not, List, [], ◌∷◌, ◌++◌, length, take, drop, refl, sym, ap, subst, ◌∙◌, arith, append_assoc, ◌≢◌, Result, Ok, Err, ◌↔◌, list_any, list_all, position_or_len, flat_map, is_utf8, append-nil, and_parts, or_parts, nat_tests, list_any-append, is_blank, AreBlanks, has_mark, begins_with, skip_blanks, drop_last_blanks, lines, InfoFault, NoColon, EmptyLabel, StrayContinuation, Pair, begins_blank, is_colon, IsPairLine, AreGroups, SaysInfo, filled_lines, InfoFaultIs, ◌>>=◌, label_of, value_of, pair_of, extend_last, add_info_line, pairs_from, info_of, skipped, dropped, skip_front, drop_back, not_empty}
use Rattle.bag_text.specs.declared.bag_info.InfoFault.TheVariants.{NotUtf8, ByteOrderMark, Memory}
use Rattle.bag_text.specs.BagInfo.{IsReached}
use Rattle.bag_text.proofs.CaseLemmas.{by_Bool, by_Result}

-- ---- a line that is a pair

-- a line is cut at its first colon
pub record IsCut (line front back : List ℕ) : Type 0 where
  pub front_is : take (position_or_len is_colon line) line ≡ front
  pub back_is : drop (position_or_len is_colon line + 1) line ≡ back
  pub colon : list_any is_colon line ≡ true

pub cut_again : (front back : List ℕ) → list_any is_colon front ≡ false → IsCut (front ++ 58 ∷ back) front back
cut_again [] back h = record { front_is = refl; back_is = refl; colon = refl }
cut_again (b ∷ front) back h =
    let parts = or_parts (is_colon b) (list_any is_colon front) h in
    let cut = cut_again front back parts.1 in
    let n : ℕ = position_or_len is_colon (front ++ 58 ∷ back) in
    let far : 1 + n + 1 ≡ suc (n + 1) = omega arith in
    record {
      front_is = rw (parts.0, one-add n) (ap (λ (x : List ℕ). b ∷ x) cut.front_is);
      back_is = rw (parts.0, far) cut.back_is;
      colon = rw parts.0 cut.colon;
    }

-- the parts of a line with a colon
pub record HasColon (line : List ℕ) : Type 0 where
  pub front : List ℕ
  pub back : List ℕ
  pub is : line ≡ front ++ 58 ∷ back
  pub no_colon : list_any is_colon front ≡ false

pub has_colon : (line : List ℕ) → list_any is_colon line ≡ true → HasColon line
has_colon [] e = absurd cc
has_colon (b ∷ line) e = by_Bool (is_colon b)
    (λ is. let colon : b ≡ 58 = eqb-true b 58 is in record { front = []; back = line; is = ap (λ (x : ℕ). x ∷ line) colon; no_colon = refl })
    (λ isnt. let h = has_colon line (rw isnt at e) in record { front = b ∷ h.front; back = h.back; is = ap (λ (x : List ℕ). b ∷ x) h.is; no_colon = rw isnt h.no_colon })

-- blanks have no colon
blanks_no_colon : (t : List ℕ) → AreBlanks t → list_any is_colon t ≡ false
blanks_no_colon [] h = refl
blanks_no_colon (b ∷ t) h =
    let parts = and_parts (is_blank b) _ h in
    let none = false_from_ne_true (is_colon b) (λ is. let wrong : is_blank 58 ≡ true = subst (λ (n : ℕ). is_blank n ≡ true) (eqb-true b 58 is) parts.0 in absurd cc) in
    rw none (blanks_no_colon t parts.1)

not_blank_skip : (t : List ℕ) → begins_blank t ≡ false → skip_blanks t ≡ t
not_blank_skip [] e = refl
not_blank_skip (b ∷ t) e = rw e refl

skipped_begins : (t : List ℕ) → begins_blank (skip_blanks t) ≡ false
skipped_begins [] = refl
skipped_begins (b ∷ t) = elim (cases_Bool (is_blank b)) [ inl e ↦ rw e (skipped_begins t) | inr e ↦ rw e e ]

dropped_twice : (t : List ℕ) → drop_last_blanks (drop_last_blanks t) ≡ drop_last_blanks t
dropped_twice t = let back = dropped t in sym (drop_back (drop_last_blanks t) back.after back.blanks) ∙ ap drop_last_blanks (sym back.is)

begins_so : (t more : List ℕ) → t ≢ [] → begins_blank (t ++ more) ≡ begins_blank t
begins_so [] more h = absurd (h refl)
begins_so (b ∷ t) more h = refl

-- what the reading finds in a line that is a pair
record IsRead (line label value : List ℕ) : Type 0 where
  not_blank : begins_blank line ≡ false
  colon : list_any is_colon line ≡ true
  label_is : label_of line ≡ label
  value_is : value_of line ≡ value

pair_again : (line label value : List ℕ) → IsPairLine line label value → IsRead line label value
pair_again line label value p =
    let whole : line ≡ (label ++ p.before) ++ 58 ∷ (p.after ++ value) = p.is ∙ append_assoc (label ++ p.before) (58 ∷ p.after) value in
    let none : list_any is_colon (label ++ p.before) ≡ false = list_any-append is_colon label p.before ∙ rw (p.no_colon, blanks_no_colon p.before p.blanks_before) refl in
    let cut = cut_again (label ++ p.before) (p.after ++ value) none in
    let front : label ++ (p.before ++ 58 ∷ (p.after ++ value)) ≡ line = sym (whole ∙ append_assoc label p.before (58 ∷ (p.after ++ value))) in
    record {
      not_blank = ap begins_blank (sym front) ∙ begins_so label (p.before ++ 58 ∷ (p.after ++ value)) p.some_label ∙ p.front;
      colon = ap (list_any is_colon) whole ∙ cut.colon;
      label_is = ap label_of whole ∙ ap drop_last_blanks cut.front_is ∙ drop_back label p.before p.blanks_before ∙ p.end;
      value_is = ap value_of whole ∙ ap skip_blanks cut.back_is ∙ skip_front p.after value p.blanks_after ∙ not_blank_skip value p.whole_run;
    }

-- a line with a colon and a label is a pair
pair_read : (line : List ℕ) → begins_blank line ≡ false → list_any is_colon line ≡ true → label_of line ≢ [] → IsPairLine line (label_of line) (value_of line)
pair_read line not_blank colon some =
    let cut = has_colon line colon in
    let found = cut_again cut.front cut.back cut.no_colon in
    let front_is : take (position_or_len is_colon line) line ≡ cut.front = ap (λ (l : List ℕ). take (position_or_len is_colon l) l) cut.is ∙ found.front_is in
    let back_is : drop (position_or_len is_colon line + 1) line ≡ cut.back = ap (λ (l : List ℕ). drop (position_or_len is_colon l + 1) l) cut.is ∙ found.back_is in
    let end = dropped (take (position_or_len is_colon line) line) in
    let space = skipped (drop (position_or_len is_colon line + 1) line) in
    let whole : line ≡ (label_of line ++ end.after) ++ 58 ∷ (space.before ++ value_of line) = cut.is ∙ ap (λ (x : List ℕ). x ++ 58 ∷ cut.back) (sym front_is ∙ end.is) ∙ ap (λ (x : List ℕ). (label_of line ++ end.after) ++ 58 ∷ x) (sym back_is ∙ space.is) in
    let none : list_any is_colon (label_of line ++ end.after) ≡ false = ap (list_any is_colon) (sym end.is ∙ front_is) ∙ cut.no_colon in
    record {
      before = end.after;
      after = space.before;
      is = whole ∙ sym (append_assoc (label_of line ++ end.after) (58 ∷ space.before) (value_of line));
      blanks_before = end.blanks;
      blanks_after = space.blanks;
      some_label = some;
      no_colon = (or_parts (list_any is_colon (label_of line)) (list_any is_colon end.after) (sym (list_any-append is_colon (label_of line) end.after) ∙ none)).0;
      front = sym (begins_so (label_of line) (end.after ++ 58 ∷ (space.before ++ value_of line)) some) ∙ ap begins_blank (sym (whole ∙ append_assoc (label_of line) end.after (58 ∷ (space.before ++ value_of line)))) ∙ not_blank;
      end = dropped_twice (take (position_or_len is_colon line) line);
      whole_run = skipped_begins (drop (position_or_len is_colon line + 1) line);
    }

-- ---- the pairs of the lines

abbrev at : List ℕ → List ℕ → Pair
at label value = record { label = label; value = value }

-- a pair with the lines that continue it
abbrev longer : Pair → List (List ℕ) → Pair
longer p more = at p.label (p.value ++ flat_map (λ line. 10 ∷ skip_blanks line) more)

longer_none : (p : Pair) → longer p [] ≡ p
longer_none p = ap (λ (v : List ℕ). at p.label v) (append-nil p.value)

longer_more : (p : Pair) (line : List ℕ) (more : List (List ℕ)) → longer (at p.label (p.value ++ 10 ∷ skip_blanks line)) more ≡ longer p (line ∷ more)
longer_more p line more = ap (λ (v : List ℕ). at p.label v) (append_assoc p.value (10 ∷ skip_blanks line) (flat_map (λ line. 10 ∷ skip_blanks line) more))

pub extended : (init : List Pair) (p : Pair) (more : List ℕ) → extend_last (init ++ p ∷ []) more ≡ init ++ at p.label (p.value ++ 10 ∷ more) ∷ []
extended [] p more = refl
extended (a ∷ []) p more = refl
extended (a ∷ b ∷ init) p more = ap (λ (x : List Pair). a ∷ x) (extended (b ∷ init) p more)

pub some_pairs : (init : List Pair) (p : Pair) → eqb (length (init ++ p ∷ [])) 0 ≡ false
some_pairs [] p = refl
some_pairs (a ∷ init) p = grind (arith, nat_tests)

pub unfolded_lines : (n : ℕ) (before : List Pair) (line : List ℕ) (ls : List (List ℕ)) → pairs_from n before (line ∷ ls) ≡ (add_info_line n before line >>= λ now. pairs_from (n + 1) now ls)
unfolding pairs_from
unfolded_lines n before line ls = refl

pub no_lines_left : (n : ℕ) (before : List Pair) → pairs_from n before [] ≡ Ok before
unfolding pairs_from
no_lines_left n before = refl

-- the kinds of lines, as they are added
pub add_blank : (n : ℕ) (before : List Pair) (line : List ℕ) → list_all is_blank line ≡ true → add_info_line n before line ≡ Ok before
unfolding add_info_line
add_blank n before line e = rw e refl

add_more : (n : ℕ) (init : List Pair) (p : Pair) (line : List ℕ) → list_all is_blank line ≡ false → begins_blank line ≡ true → add_info_line n (init ++ p ∷ []) line ≡ Ok (init ++ at p.label (p.value ++ 10 ∷ skip_blanks line) ∷ [])
unfolding add_info_line
add_more n init p line e g = rw (e, g, some_pairs init p) (ap (λ (x : List Pair). Ok x) (extended init p (skip_blanks line)))

add_stray : (n : ℕ) (line : List ℕ) → list_all is_blank line ≡ false → begins_blank line ≡ true → add_info_line n [] line ≡ Err (StrayContinuation n)
unfolding add_info_line
add_stray n line e g = rw (e, g) refl

abbrev pair_added : ℕ → List Pair → List ℕ → Result (List Pair) InfoFault
pair_added n before line = pair_of n line >>= λ pair. Ok (before ++ pair ∷ [])

add_other : (n : ℕ) (before : List Pair) (line : List ℕ) → list_all is_blank line ≡ false → begins_blank line ≡ false → add_info_line n before line ≡ pair_added n before line
unfolding add_info_line
add_other n before line e g = rw (e, g) refl

empty_test : (t : List ℕ) → eqb (length t) 0 ≡ true → t ≡ []
empty_test [] e = refl
empty_test (b ∷ t) e = absurd (let wrong : eqb (length (b ∷ t)) 0 ≡ false = grind (arith, nat_tests) in cc)

-- a pair that was added stands in its line
record IsAdded (before : List Pair) (line : List ℕ) (now : List Pair) : Type 0 where
  pair : Pair
  is : IsPairLine line pair.label pair.value
  now_is : now ≡ before ++ pair ∷ []

added : (n : ℕ) (before : List Pair) (line : List ℕ) (now : List Pair) → begins_blank line ≡ false → pair_added n before line ≡ Ok now → IsAdded before line now
added n before line now g e =
    let made = at (label_of line) (value_of line) in
    let read = bind_ok (pair_of n line) (λ pair. Ok (before ++ pair ∷ [])) now e in
    let colon = ok_unless (not (list_any is_colon line)) (NoColon n) (cond (eqb (length (label_of line)) 0) (Err (EmptyLabel n)) (Ok made)) read.0 read.1 in
    let label = ok_unless (eqb (length (label_of line)) 0) (EmptyLabel n) (Ok made) read.0 colon.1 in
    let some = λ (none : label_of line ≡ []). let empty : eqb (length (label_of line)) 0 ≡ true = rw none refl in false≢true (sym label.0 ∙ empty) in
    let now_is = ap (λ (p : Pair). before ++ p ∷ []) (ok_is made read.0 label.1) ∙ ok_is (before ++ read.0 ∷ []) now read.2 in
    record { pair = made; is = pair_read line g (not-false _ colon.0) some; now_is = sym now_is }

added_again : (n : ℕ) (before : List Pair) (line label value : List ℕ) → IsPairLine line label value → pair_added n before line ≡ Ok (before ++ at label value ∷ [])
added_again n before line label value p =
    let r = pair_again line label value p in
    let some : eqb (length (label_of line)) 0 ≡ false = ap (λ (t : List ℕ). eqb (length t) 0) r.label_is ∙ not_empty label p.some_label in
    rw (r.colon, some) (ap (λ (x : List ℕ). Ok (before ++ at x (value_of line) ∷ [])) r.label_is ∙ ap (λ (x : List ℕ). Ok (before ++ at label x ∷ [])) r.value_is)

-- ---- what is read is said

-- equal answers to a line are read on alike
with_line : {r s : Result (List Pair) InfoFault} (n : ℕ) (ls : List (List ℕ)) → r ≡ s → (r >>= λ now. pairs_from (n + 1) now ls) ≡ (s >>= λ now. pairs_from (n + 1) now ls)
with_line n ls e = ap (λ (r : Result (List Pair) InfoFault). r >>= λ now. pairs_from (n + 1) now ls) e

-- lines that continue the last pair, and groups
record GoesOn (init : List Pair) (p : Pair) (ls : List (List ℕ)) (pairs : List Pair) : Type 0 where
  more : List (List ℕ)
  rest : List (List ℕ)
  others : List Pair
  is : filled_lines ls ≡ more ++ rest
  blank : list_all begins_blank more ≡ true
  groups : AreGroups rest others
  whole : pairs ≡ init ++ longer p more ∷ others

going_on : (n : ℕ) (init : List Pair) (p : Pair) (ls : List (List ℕ)) (pairs : List Pair) → pairs_from n (init ++ p ∷ []) ls ≡ Ok pairs → GoesOn init p ls pairs
going_on n init p [] pairs e =
    let same : init ++ p ∷ [] ≡ pairs = let h = sym (no_lines_left n (init ++ p ∷ [])) ∙ e in cc in
    record { more = []; rest = []; others = []; is = refl; blank = refl; groups = refl; whole = sym same ∙ ap (λ (q : Pair). init ++ q ∷ []) (sym (longer_none p)) }
going_on n init p (line ∷ ls) pairs e =
    let read = sym (unfolded_lines n (init ++ p ∷ []) line ls) ∙ e in
    elim (cases_Bool (list_all is_blank line)) [
      | inl is ↦ skipping is (going_on (n + 1) init p ls pairs (sym (with_line n ls (add_blank n (init ++ p ∷ []) line is)) ∙ read))
      | inr is ↦ elim (cases_Bool (begins_blank line)) [
        | inl begins ↦ continuing is begins (going_on (n + 1) init (at p.label (p.value ++ 10 ∷ skip_blanks line)) ls pairs (sym (with_line n ls (add_more n init p line is begins)) ∙ read))
        | inr begins ↦
            let one = bind_ok (pair_added n (init ++ p ∷ []) line) (λ now. pairs_from (n + 1) now ls) pairs (sym (with_line n ls (add_other n (init ++ p ∷ []) line is begins)) ∙ read) in
            let a = added n (init ++ p ∷ []) line one.0 begins one.1 in
            beginning is a.pair a.is (going_on (n + 1) (init ++ p ∷ []) a.pair ls pairs (ap (λ (x : List Pair). pairs_from (n + 1) x ls) (sym a.now_is) ∙ one.2))
      ]
    ]
  where
    skipping : list_all is_blank line ≡ true → GoesOn init p ls pairs → GoesOn init p (line ∷ ls) pairs
    skipping is h = record { more = h.more; rest = h.rest; others = h.others; is = rw is h.is; blank = h.blank; groups = h.groups; whole = h.whole }

    continuing : list_all is_blank line ≡ false → begins_blank line ≡ true → GoesOn init (at p.label (p.value ++ 10 ∷ skip_blanks line)) ls pairs → GoesOn init p (line ∷ ls) pairs
    continuing is begins h = record { more = line ∷ h.more; rest = h.rest; others = h.others; is = rw is (ap (λ (x : List (List ℕ)). line ∷ x) h.is); blank = rw begins h.blank; groups = h.groups; whole = h.whole ∙ ap (λ (q : Pair). init ++ q ∷ h.others) (longer_more p line h.more) }

    beginning : list_all is_blank line ≡ false → (q : Pair) → IsPairLine line q.label q.value → GoesOn (init ++ p ∷ []) q ls pairs → GoesOn init p (line ∷ ls) pairs
    beginning is q pair h = record {
      more = [];
      rest = line ∷ h.more ++ h.rest;
      others = longer q h.more ∷ h.others;
      is = rw is (ap (λ (x : List (List ℕ)). line ∷ x) h.is);
      blank = refl;
      groups = (line, h.more, h.rest, q.value, refl, pair, h.blank, refl, h.groups);
      whole = h.whole ∙ append_assoc init (p ∷ []) (longer q h.more ∷ h.others) ∙ ap (λ (x : Pair). init ++ x ∷ longer q h.more ∷ h.others) (sym (longer_none p));
    }

-- lines that are read fall into groups
groups_read : (n : ℕ) (ls : List (List ℕ)) (pairs : List Pair) → pairs_from n [] ls ≡ Ok pairs → AreGroups (filled_lines ls) pairs
groups_read n [] pairs e =
    let none : [] ≡ pairs = let h = sym (no_lines_left n []) ∙ e in cc in
    subst (AreGroups []) none refl
groups_read n (line ∷ ls) pairs e =
    let read = sym (unfolded_lines n [] line ls) ∙ e in
    elim (cases_Bool (list_all is_blank line)) [
      | inl is ↦ rw is (groups_read (n + 1) ls pairs (sym (with_line n ls (add_blank n [] line is)) ∙ read))
      | inr is ↦ elim (cases_Bool (begins_blank line)) [
        | inl begins ↦ let wrong = sym (with_line n ls (add_stray n line is begins)) ∙ read in absurd cc
        | inr begins ↦
            let one = bind_ok (pair_added n [] line) (λ now. pairs_from (n + 1) now ls) pairs (sym (with_line n ls (add_other n [] line is begins)) ∙ read) in
            let a = added n [] line one.0 begins one.1 in
            beginning is a.pair a.is (going_on (n + 1) [] a.pair ls pairs (ap (λ (x : List Pair). pairs_from (n + 1) x ls) (sym a.now_is) ∙ one.2))
      ]
    ]
  where
    beginning : list_all is_blank line ≡ false → (q : Pair) → IsPairLine line q.label q.value → GoesOn [] q ls pairs → AreGroups (filled_lines (line ∷ ls)) pairs
    beginning is q pair h =
        let all : line ∷ h.more ++ h.rest ≡ filled_lines (line ∷ ls) = rw is (ap (λ (x : List (List ℕ)). line ∷ x) (sym h.is)) in
        subst (λ (x : List (List ℕ)). AreGroups x pairs) all (subst (AreGroups (line ∷ h.more ++ h.rest)) (sym h.whole) (line, h.more, h.rest, q.value, refl, pair, h.blank, refl, h.groups))

-- ---- what is said is read

-- lines that continue the last pair, then groups
going_again : (n : ℕ) (init : List Pair) (p : Pair) (ls more rest : List (List ℕ)) (others : List Pair) → filled_lines ls ≡ more ++ rest → list_all begins_blank more ≡ true → AreGroups rest others → pairs_from n (init ++ p ∷ []) ls ≡ Ok (init ++ longer p more ∷ others)
going_again n init p [] (m ∷ more) rest others is blank groups = absurd cc
going_again n init p [] [] (r ∷ rest) others is blank groups = absurd cc
going_again n init p [] [] [] [] is blank groups = no_lines_left n (init ++ p ∷ []) ∙ ap (λ (q : Pair). Ok (init ++ q ∷ [])) (sym (longer_none p))
going_again n init p [] [] [] (q ∷ others) is blank groups = absurd (let wrong = groups.4 in cc)
going_again n init p (line ∷ ls) more rest others is blank groups =
    unfolded_lines n (init ++ p ∷ []) line ls ∙ by_Bool (list_all is_blank line)
    (λ e. with_line n ls (add_blank n (init ++ p ∷ []) line e) ∙ going_again (n + 1) init p ls more rest others (rw e at is) blank groups)
    (λ e. by_line e more rest others (rw e at is) blank groups (λ init p more rest others is blank groups. going_again (n + 1) init p ls more rest others is blank groups))
  where
    Again : Type 0
    Again = (init : List Pair) (p : Pair) (more rest : List (List ℕ)) (others : List Pair) → filled_lines ls ≡ more ++ rest → list_all begins_blank more ≡ true → AreGroups rest others → pairs_from (n + 1) (init ++ p ∷ []) ls ≡ Ok (init ++ longer p more ∷ others)

    by_line : list_all is_blank line ≡ false → (more rest : List (List ℕ)) (others : List Pair) → line ∷ filled_lines ls ≡ more ++ rest → list_all begins_blank more ≡ true → AreGroups rest others → Again → (add_info_line n (init ++ p ∷ []) line >>= λ now. pairs_from (n + 1) now ls) ≡ Ok (init ++ longer p more ∷ others)
    by_line full (m ∷ more) rest others is blank groups again =
        let same : line ≡ m = cc in
        let left : filled_lines ls ≡ more ++ rest = cc in
        let both = and_parts (begins_blank m) (list_all begins_blank more) blank in
        with_line n ls (add_more n init p line full (ap begins_blank same ∙ both.0))
        ∙ again init (at p.label (p.value ++ 10 ∷ skip_blanks line)) more rest others left both.1 groups
        ∙ ap (λ (q : Pair). Ok (init ++ q ∷ others)) (longer_more p line more)
        ∙ ap (λ (l : List ℕ). Ok (init ++ longer p (l ∷ more) ∷ others)) same
    by_line full [] rest [] is blank groups again = absurd (let wrong : rest ≡ [] = groups in cc)
    by_line full [] rest (q ∷ others) is blank (first, more, left, value, whole, pair, begins, says, groups) again =
        let cut : line ∷ filled_lines ls ≡ first ∷ (more ++ left) = is ∙ whole in
        let same : first ≡ line = cc in
        let tail : filled_lines ls ≡ more ++ left = cc in
        let here : IsPairLine line q.label value = subst (λ (l : List ℕ). IsPairLine l q.label value) same pair in
        with_line n ls (add_other n (init ++ p ∷ []) line full (pair_again line q.label value here).not_blank ∙ added_again n (init ++ p ∷ []) line q.label value here)
        ∙ again (init ++ p ∷ []) (at q.label value) more left others tail begins groups
        ∙ ap (λ (x : List Pair). Ok x) (append_assoc init (p ∷ []) (longer (at q.label value) more ∷ others))
        ∙ ap (λ (v : List ℕ). Ok (init ++ p ∷ at q.label v ∷ others)) (sym says)
        ∙ ap (λ (x : Pair). Ok (init ++ x ∷ q ∷ others)) (sym (longer_none p))

-- lines that fall into groups are read
groups_again : (n : ℕ) (ls : List (List ℕ)) (pairs : List Pair) → AreGroups (filled_lines ls) pairs → pairs_from n [] ls ≡ Ok pairs
groups_again n [] [] groups = no_lines_left n []
groups_again n [] (q ∷ others) groups = absurd (let wrong = groups.4 in cc)
groups_again n (line ∷ ls) pairs groups = unfolded_lines n [] line ls ∙ by_Bool (list_all is_blank line)
    (λ e. with_line n ls (add_blank n [] line e) ∙ groups_again (n + 1) ls pairs (rw e at groups))
    (λ e. by_line e pairs (rw e at groups))
  where
    by_line : list_all is_blank line ≡ false → (pairs : List Pair) → AreGroups (line ∷ filled_lines ls) pairs → (add_info_line n [] line >>= λ now. pairs_from (n + 1) now ls) ≡ Ok pairs
    by_line full [] groups = absurd (let wrong : line ∷ filled_lines ls ≡ [] = groups in cc)
    by_line full (q ∷ others) (first, more, left, value, whole, pair, begins, says, groups) =
        let same : first ≡ line = cc in
        let tail : filled_lines ls ≡ more ++ left = cc in
        let here : IsPairLine line q.label value = subst (λ (l : List ℕ). IsPairLine l q.label value) same pair in
        with_line n ls (add_other n [] line full (pair_again line q.label value here).not_blank ∙ added_again n [] line q.label value here)
        ∙ going_again (n + 1) [] (at q.label value) ls more left others tail begins groups
        ∙ ap (λ (v : List ℕ). Ok (at q.label v ∷ others)) (sym says)

-- ---- the text

info_lines : (text : List ℕ) → is_utf8 text ≡ true → has_mark text ≡ false → info_of text ≡ pairs_from 1 [] (lines text)
unfolding info_of
info_lines text utf8 unmarked = rw (utf8, unmarked) refl

not_utf8 : (text : List ℕ) → is_utf8 text ≡ false → info_of text ≡ Err NotUtf8
unfolding info_of
not_utf8 text e = rw e refl

marked : (text : List ℕ) → is_utf8 text ≡ true → has_mark text ≡ true → info_of text ≡ Err ByteOrderMark
unfolding info_of
marked text e g = rw (e, g) refl

says_what_is_read : (text : List ℕ) (pairs : List Pair) → info_of text ≡ Ok pairs → SaysInfo text pairs
says_what_is_read text pairs e =
    let utf8 = true_from_ne_false (is_utf8 text) (λ is. never_both pairs NotUtf8 (info_of text) e (not_utf8 text is)) in
    let unmarked = false_from_ne_true (has_mark text) (λ is. never_both pairs ByteOrderMark (info_of text) e (marked text utf8 is)) in
    record { utf8 = utf8; unmarked = unmarked; groups = groups_read 1 (lines text) pairs (sym (info_lines text utf8 unmarked) ∙ e) }

-- A text says these pairs exactly where reading answers them.
pub info_said : (text : List ℕ) (pairs : List Pair) → (info_of text ≡ Ok pairs) ↔ SaysInfo text pairs
info_said text pairs = (says_what_is_read text pairs, λ is. info_lines text is.utf8 is.unmarked ∙ groups_again 1 (lines text) pairs is.groups)

-- ---- the first fault

abbrev refusal : InfoFault → Result (List Pair) InfoFault
refusal f = Err f

-- the first line at fault, and what stands before it
record StopsAt (n : ℕ) (before : List Pair) (ls : List (List ℕ)) (f : InfoFault) : Type 0 where
  front : List (List ℕ)
  line : List ℕ
  back : List (List ℕ)
  now : List Pair
  is : ls ≡ front ++ line ∷ back
  read : pairs_from n before front ≡ Ok now
  fault : add_info_line (n + length front) now line ≡ Err f

stops : (n : ℕ) (before : List Pair) (ls : List (List ℕ)) (f : InfoFault) → pairs_from n before ls ≡ Err f → StopsAt n before ls f
stops n before [] f e = let wrong = sym (no_lines_left n before) ∙ e in absurd cc
stops n before (line ∷ ls) f e =
    let read = sym (unfolded_lines n before line ls) ∙ e in
    by_Result (add_info_line n before line)
    (λ now is.
    let later = stops (n + 1) now ls f (rw is at read) in
    let place : n + length (line ∷ later.front) ≡ n + 1 + length later.front = omega arith in
    record {
      front = line ∷ later.front;
      line = later.line;
      back = later.back;
      now = later.now;
      is = ap (λ (x : List (List ℕ)). line ∷ x) later.is;
      read = unfolded_lines n before line later.front ∙ ap (λ (r : Result (List Pair) InfoFault). r >>= λ now. pairs_from (n + 1) now later.front) is ∙ later.read;
      fault = ap (λ (k : ℕ). add_info_line k later.now later.line) place ∙ later.fault;
    })
    (λ g is.
    let here : n + 0 ≡ n = omega arith in
    let same : g ≡ f = (let failed = rw is at read in cc) in
    record { front = []; line = line; back = ls; now = before; is = refl; read = no_lines_left n before; fault = ap (λ (k : ℕ). add_info_line k before line) here ∙ is ∙ ap (λ (h : InfoFault). Err h) same })

stops_again : (n : ℕ) (before : List Pair) (front : List (List ℕ)) (line : List ℕ) (back : List (List ℕ)) (now : List Pair) (f : InfoFault) → pairs_from n before front ≡ Ok now → add_info_line (n + length front) now line ≡ Err f → pairs_from n before (front ++ line ∷ back) ≡ Err f
stops_again n before [] line back now f read fault =
    let same : before ≡ now = let h = sym (no_lines_left n before) ∙ read in cc in
    let here : n ≡ n + 0 = omega arith in
    unfolded_lines n before line back ∙ ap (λ (r : Result (List Pair) InfoFault). r >>= λ now. pairs_from (n + 1) now back) (ap (λ (x : List Pair). add_info_line n x line) same ∙ ap (λ (k : ℕ). add_info_line k now line) here ∙ fault)
stops_again n before (a ∷ front) line back now f read fault =
    let place : n + 1 + length front ≡ n + length (a ∷ front) = omega arith in
    let first = bind_ok (add_info_line n before a) (λ b. pairs_from (n + 1) b front) now (sym (unfolded_lines n before a front) ∙ read) in
    unfolded_lines n before a (front ++ line ∷ back) ∙ rw first.1 (stops_again (n + 1) first.0 front line back now f first.2 (ap (λ (k : ℕ). add_info_line k now line) place ∙ fault))

pub add_longer : (n : ℕ) (a : Pair) (ps : List Pair) (line : List ℕ) → list_all is_blank line ≡ false → begins_blank line ≡ true → add_info_line n (a ∷ ps) line ≡ Ok (extend_last (a ∷ ps) (skip_blanks line))
unfolding add_info_line
add_longer n a ps line e g = let some : eqb (length (a ∷ ps)) 0 ≡ false = grind (arith, nat_tests) in rw (e, g, some) refl

-- a line with no label begins with its colon
label_missing : (line : List ℕ) → begins_blank line ≡ false → list_any is_colon line ≡ true → label_of line ≡ [] → begins_with 58 line ≡ true
label_missing line not_blank colon none =
    let cut = has_colon line colon in
    let found = cut_again cut.front cut.back cut.no_colon in
    let front_is : take (position_or_len is_colon line) line ≡ cut.front = ap (λ (l : List ℕ). take (position_or_len is_colon l) l) cut.is ∙ found.front_is in
    let end = dropped (take (position_or_len is_colon line) line) in
    let blanks : end.after ≡ cut.front = sym (ap (λ (x : List ℕ). x ++ end.after) none) ∙ sym end.is ∙ front_is in
    by_front cut.front cut.back (subst AreBlanks blanks end.blanks) cut.is
  where
    by_front : (front back : List ℕ) → AreBlanks front → line ≡ front ++ 58 ∷ back → begins_with 58 line ≡ true
    by_front [] back blanks is = ap (begins_with 58) is
    by_front (b ∷ front) back blanks is = let wrong = sym (ap begins_blank is) ∙ not_blank in let right = (and_parts (is_blank b) _ blanks).0 in absurd cc

-- the fault that is answered is the row of the table that stands
row : (text : List ℕ) (f g : InfoFault) → refusal g ≡ Err f → InfoFaultIs text g → InfoFaultIs text f
row text f g e h = let same : g ≡ f = cc in subst (InfoFaultIs text) same h

-- the fault of a line that is reached is a row of the table
reached_fault : (text : List ℕ) (pairs : List Pair) (number : ℕ) (line : List ℕ) (f : InfoFault) → IsReached text pairs number line → add_info_line number pairs line ≡ Err f → InfoFaultIs text f
reached_fault text pairs number line f reached e = by_Bool (begins_blank line) (λ is. stray pairs reached is e) (λ is.
    let read = sym (add_other number pairs line reached.full is) ∙ e in
    by_Bool (list_any is_colon line)
    (λ colon. by_Bool (eqb (length (label_of line)) 0)
    (λ none. row text f (EmptyLabel number) (rw (colon, none) at read) (pairs, line, reached, label_missing line is colon (empty_test (label_of line) none)))
    (λ some. let wrong = rw (colon, some) at read in absurd cc))
    (λ colon. row text f (NoColon number) (rw colon at read) (pairs, line, reached, is, colon)))
  where
    stray : (pairs : List Pair) → IsReached text pairs number line → begins_blank line ≡ true → add_info_line number pairs line ≡ Err f → InfoFaultIs text f
    stray [] reached is e = row text f (StrayContinuation number) (sym (add_stray number line reached.full is) ∙ e) (line, reached, is)
    stray (a ∷ ps) reached is e = let wrong = sym (add_longer number a ps line reached.full is) ∙ e in absurd cc

is_fault : (text : List ℕ) (f : InfoFault) → info_of text ≡ Err f → InfoFaultIs text f
is_fault text f e = by_Bool (is_utf8 text)
    (λ utf8. by_Bool (has_mark text) (λ is. row text f ByteOrderMark (sym (marked text utf8 is) ∙ e) (utf8, is)) (λ unmarked.
    let h = stops 1 [] (lines text) f (sym (info_lines text utf8 unmarked) ∙ e) in
    let full = false_from_ne_true (list_all is_blank h.line) (λ is. let wrong = sym (add_blank (1 + length h.front) h.now h.line is) ∙ h.fault in absurd cc) in
    reached_fault text h.now (1 + length h.front) h.line f (record { utf8 = utf8; unmarked = unmarked; before = h.front; after = h.back; is = h.is; place = omega arith; said = groups_read 1 h.front h.now h.read; full = full }) h.fault))
    (λ is. row text f NotUtf8 (sym (not_utf8 text is) ∙ e) is)

-- a line that is reached and at fault is where reading stops
reached_again : (text : List ℕ) (pairs : List Pair) (number : ℕ) (line : List ℕ) (f : InfoFault) → IsReached text pairs number line → add_info_line number pairs line ≡ Err f → info_of text ≡ Err f
reached_again text pairs number line f r e =
    let place : 1 + length r.before ≡ number = let h = r.place in omega (arith, h) in
    info_lines text r.utf8 r.unmarked ∙ ap (pairs_from 1 []) r.is ∙ stops_again 1 [] r.before line r.after pairs f (groups_again 1 r.before pairs r.said) (ap (λ (k : ℕ). add_info_line k pairs line) place ∙ e)

empty_label : (n : ℕ) (before : List Pair) (line : List ℕ) → list_all is_blank line ≡ false → begins_with 58 line ≡ true → add_info_line n before line ≡ Err (EmptyLabel n)
empty_label n before [] full e = absurd cc
empty_label n before (b ∷ t) full e =
    let colon : b ≡ 58 = grind (arith, nat_tests, e) in
    ap (λ (c : ℕ). add_info_line n before (c ∷ t)) colon ∙ add_other n before (58 ∷ t) refl refl

fault_again : (text : List ℕ) (f : InfoFault) → InfoFaultIs text f → info_of text ≡ Err f
fault_again text NotUtf8 is = not_utf8 text is
fault_again text ByteOrderMark is = marked text is.0 is.1
fault_again text (NoColon n) (pairs, line, r, begins, colon) = reached_again text pairs n line (NoColon n) r (add_other n pairs line r.full begins ∙ rw colon refl)
fault_again text (EmptyLabel n) (pairs, line, r, begins) = reached_again text pairs n line (EmptyLabel n) r (empty_label n pairs line r.full begins)
fault_again text (StrayContinuation n) (line, r, begins) = reached_again text [] n line (StrayContinuation n) r (add_stray n line r.full begins)
fault_again text Memory is = absurd is

-- A fault is a row of the table exactly where reading answers it.
pub info_fault : (text : List ℕ) (f : InfoFault) → (info_of text ≡ Err f) ↔ InfoFaultIs text f
info_fault text f = (is_fault text f, fault_again text f)
