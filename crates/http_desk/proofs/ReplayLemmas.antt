-- One record more, and what a replay comes to.
use Rattle.http_desk.proofs.Common.{◌≡◌, ◌≢◌, Bool, ℕ, ◌+◌, ◌<◌, ◌≤◌, ◌⊎◌, List, [], ◌∷◌, ◌++◌, true, false, Option, inl, inr, length, take, refl, sym, ap, ◌∙◌, subst, arith, length-append, append_assoc, append-nil, take_all, Ok, Err, Appends, Consumes, IsAtEnd, Appends-nil, Appends-trans, Consumes-nil, Consumes-trans, Held, state, Ghosts, Date, IsRecord, record_text, answer_record, BeginsWithNone, CanNotBegin, WantsMore, AreRecords, request_texts, answer_texts, max_records, AnswersRecord, AnswersEach, HasAnswered, HasDone, HasWritten, Moment, Replayed, AnswersNext, ReadsMore, fault_after, DeskRequest, IsAnswered, ServesBytes}
use Rattle.http_desk.proofs.FoundLemmas.{wanted_none}
use Rattle.http_desk.proofs.ListLemmas.{texts_more, are_all, rest_shorter}
use Rattle.http_desk.specs.declared.answering.Unwritten.{Unwritten}
use Rattle.http_desk.specs.declared.answering.Unwritten.TheVariants as unwritten
use Rattle.http_desk.specs.declared.replaying.ReplayStop.{ReplayStop}
use Rattle.http_desk.specs.declared.replaying.ReplayStop.TheVariants as stops
use Rattle.http_desk.specs.declared.replaying.ReplayFault.{ReplayFault}
use Rattle.office_core.specs.declared.answer.Answer.{Answer}
use Rattle.desk_answers.specs.Answers.{answer_text}

-- ---- lists

answers_more : {S : Type 0} (g : Ghosts S) (old now new : Held S) (items : List DeskRequest) (item : DeskRequest) (texts : List (List ℕ)) (text : List ℕ)
    → AnswersEach g old items texts now → AnswersRecord g item now new text → AnswersEach g old (items ++ item ∷ []) (texts ++ text ∷ []) new
answers_more g old now new [] item [] text each a = (new, subst (λ o. AnswersRecord g item o new text) each a, refl)
answers_more g old now new (i ∷ items) item (first ∷ texts) text each a = (each.0, each.1, answers_more g each.0 now new items item texts text each.2 a)
answers_more g old now new _ item _ text each a = absurd each

same_count : {S : Type 0} (g : Ghosts S) (old new : Held S) (items : List DeskRequest) (texts : List (List ℕ)) → AnswersEach g old items texts new → length texts ≡ length items
same_count g old new [] [] each = refl
same_count g old new (i ∷ items) (first ∷ texts) each = let h = same_count g each.0 new items texts each.2 in omega arith
same_count g old new _ _ each = absurd each

-- one answer more
texts_one : (texts : List (List ℕ)) (text : List ℕ) → answer_texts (texts ++ text ∷ []) ≡ answer_texts texts ++ answer_record text
texts_one [] text = append-nil (answer_record text)
texts_one (first ∷ texts) text = ap (λ l. answer_record first ++ l) (texts_one texts text) ∙ sym (append_assoc (answer_record first) (answer_texts texts) (answer_record text))

front_of : (texts : List (List ℕ)) (text : List ℕ) → take (length texts) (texts ++ text ∷ []) ≡ texts
front_of [] text = refl
front_of (first ∷ texts) text = ap (λ l. first ∷ l) (front_of texts text)

not_empty : (day : Date) (bytes rest all : List ℕ) → all ≡ record_text day bytes ++ rest → all ≢ []
not_empty day bytes rest all e none = let h = rest_shorter all day bytes rest e in let l : length all ≡ 0 = ap length none in omega arith

-- ---- so far

-- a moment of these parts
abbrev pub moment : {S : Type 0} → Held S → Option (List ℕ) → Option (List ℕ) → Moment S
moment office input output = record { office = office; input = input; output = output }

-- this number of records was done, the answers are written, and these bytes are pending
pub record Progress {S : Type 0} (g : Ghosts S) (old now : Moment S) (pending : List ℕ) (count : ℕ) : Type 0 where
  pub items : List DeskRequest
  pub texts : List (List ℕ)
  pub reads : Consumes old.input now.input (request_texts items ++ pending)
  pub each : AreRecords items
  pub answers : AnswersEach g old.office items texts now.office
  pub writes : Appends old.output now.output (answer_texts texts)
  pub counted : count ≡ length items
  pub few : count ≤ max_records

pub started : {S : Type 0} (g : Ghosts S) (old : Held S) (input output : Option (List ℕ)) (pending : List ℕ) → pending ≡ [] → Progress g (moment old input output) (moment old input output) pending 0
started g old input output pending none = record {
  items = [];
  texts = [];
  reads = subst (Consumes input input) (sym none) (Consumes-nil input);
  each = tt;
  answers = refl;
  writes = Appends-nil output;
  counted = refl;
  few = omega arith;
}

pub read_on : {S : Type 0} (g : Ghosts S) (old now : Held S) (input left next output written : Option (List ℕ)) (pending more all : List ℕ) (count : ℕ)
    → Progress g (moment old input output) (moment now left written) pending count → Consumes left next more → all ≡ pending ++ more → Progress g (moment old input output) (moment now next written) all count
read_on g old now input left next output written pending more all count p c e = record {
  items = p.items;
  texts = p.texts;
  reads = subst (Consumes input next) (append_assoc (request_texts p.items) pending more ∙ ap (λ l. request_texts p.items ++ l) (sym e)) (Consumes-trans input left next (request_texts p.items ++ pending) more p.reads c);
  each = p.each;
  answers = p.answers;
  writes = p.writes;
  counted = p.counted;
  few = p.few;
}

pub answered_on : {S : Type 0} (g : Ghosts S) (old now new : Held S) (input left output written more : Option (List ℕ)) (pending rest : List ℕ) (count : ℕ) (item : DeskRequest) (text : List ℕ)
    → Progress g (moment old input output) (moment now left written) pending count → IsRecord item.day item.bytes → pending ≡ record_text item.day item.bytes ++ rest → count < max_records
    → AnswersRecord g item now new text → Appends written more (answer_record text) → Progress g (moment old input output) (moment new left more) rest (count + 1)
answered_on g old now new input left output written more pending rest count item text p is e low a w = record {
  items = p.items ++ item ∷ [];
  texts = p.texts ++ text ∷ [];
  reads = subst (Consumes input left) (ap (λ l. request_texts p.items ++ l) e ∙ sym (texts_more p.items item rest)) p.reads;
  each = are_all p.items (item ∷ []) p.each (is, tt);
  answers = answers_more g old now new p.items item p.texts text p.answers a;
  writes = subst (Appends output more) (sym (texts_one p.texts text)) (Appends-trans output written more (answer_texts p.texts) (answer_record text) p.writes w);
  counted = (let c = p.counted in let l = length-append p.items (item ∷ []) in omega arith);
  few = omega arith;
}

-- ---- ends

pub stopped_by : {S : Type 0} (g : Ghosts S) (old now : Held S) (input left output written : Option (List ℕ)) (fault told : ReplayFault) → fault ≡ told
    → Replayed g (moment old input output) (moment now left written) (Err told) → Replayed g (moment old input output) (moment now left written) (Err fault)
stopped_by g old now input left output written fault told e h = subst (λ f. Replayed g (moment old input output) (moment now left written) (Err f)) (sym e) h

-- what follows the records is no whole record, or there are as many as there may be
answered_all : {S : Type 0} (g : Ghosts S) (old now : Held S) (input left output written : Option (List ℕ)) (pending : List ℕ) (count : ℕ)
    → (p : Progress g (moment old input output) (moment now left written) pending count) → (count < max_records → BeginsWithNone pending) → HasAnswered g (moment old input output) (moment now left written) p.items pending
answered_all g old now input left output written pending count p none = record {
  given = request_texts p.items ++ pending;
  texts = p.texts;
  reads = p.reads;
  records = record { text = refl; each = p.each; few = (let c = p.counted in let f = p.few in omega arith); ends = λ l. none (let c = p.counted in omega arith) };
  answers = p.answers;
  writes = p.writes;
}

pub ended : {S : Type 0} (g : Ghosts S) (old now : Held S) (input left next output written : Option (List ℕ)) (pending : List ℕ) (count : ℕ)
    → Progress g (moment old input output) (moment now left written) pending count → WantsMore pending → pending ≡ [] → Consumes left next [] → IsAtEnd next
    → Replayed g (moment old input output) (moment now next written) (Ok count)
ended g old now input left next output written pending count p wants none c at_end =
    let q = read_on g old now input left next output written pending [] pending count p c (sym (append-nil pending)) in
    let P : List ℕ → Type 0 = λ l. HasAnswered g (moment old input output) (moment now next written) q.items l in
    (q.items, subst P none (answered_all g old now input next output written pending count q (λ _. wanted_none pending wants)), at_end, q.counted)

pub bad_at_end : {S : Type 0} (g : Ghosts S) (old now : Held S) (input left next output written : Option (List ℕ)) (pending : List ℕ) (count : ℕ)
    → Progress g (moment old input output) (moment now left written) pending count → WantsMore pending → pending ≢ [] → Consumes left next [] → IsAtEnd next
    → Replayed g (moment old input output) (moment now next written) (Err (record { stop = stops.BadRecord (count + 1); done = count; answered = count }))
bad_at_end g old now input left next output written pending count p wants some c at_end =
    let q = read_on g old now input left next output written pending [] pending count p c (sym (append-nil pending)) in
    (q.items, pending, answered_all g old now input next output written pending count q (λ _. wanted_none pending wants), (some, inl at_end), ap (λ n. n + 1) q.counted, q.counted, q.counted)

not_full : (count : ℕ) (pending : List ℕ) → CanNotBegin pending ⊎ (count ≡ max_records) → count < max_records → BeginsWithNone pending
not_full count pending (inl bad) low = λ day bytes rest is e. bad [] day bytes rest is (append-nil pending ∙ e)
not_full count pending (inr full) low = absurd (omega arith)

why_bad : (count n : ℕ) (left : Option (List ℕ)) (pending : List ℕ) → count ≡ n → CanNotBegin pending ⊎ (count ≡ max_records) → IsAtEnd left ⊎ (CanNotBegin pending ⊎ (n ≡ max_records))
why_bad count n left pending e (inl bad) = inr (inl bad)
why_bad count n left pending e (inr full) = inr (inr (sym e ∙ full))

pub bad_stop : {S : Type 0} (g : Ghosts S) (old now : Held S) (input left output written : Option (List ℕ)) (pending : List ℕ) (count : ℕ)
    → Progress g (moment old input output) (moment now left written) pending count → (pending ≢ []) × (CanNotBegin pending ⊎ (count ≡ max_records))
    → Replayed g (moment old input output) (moment now left written) (Err (record { stop = stops.BadRecord (count + 1); done = count; answered = count }))
bad_stop g old now input left output written pending count p bad = (
  p.items,
  pending,
  answered_all g old now input left output written pending count p (not_full count pending bad.1),
  (bad.0, why_bad count (length p.items) left pending p.counted bad.1),
  ap (λ n. n + 1) p.counted,
  p.counted,
  p.counted,
)

-- the records so far
done_so_far : {S : Type 0} (g : Ghosts S) (old now : Held S) (input left next output written more : Option (List ℕ)) (pending bytes : List ℕ) (count : ℕ)
    → (p : Progress g (moment old input output) (moment now left written) pending count) → Consumes left next bytes → HasDone g (moment old input output) (moment now next more) p.items p.texts
done_so_far g old now input left next output written more pending bytes count p c = record {
  rest = pending ++ bytes;
  reads = subst (Consumes input next) (append_assoc (request_texts p.items) pending bytes) (Consumes-trans input left next (request_texts p.items ++ pending) bytes p.reads c);
  each = p.each;
  few = (let k = p.counted in let f = p.few in omega arith);
  answers = p.answers;
}

-- with nothing more written
written_so_far : {S : Type 0} (g : Ghosts S) (old now : Held S) (input left next output written more : Option (List ℕ)) (pending : List ℕ) (count : ℕ)
    → (p : Progress g (moment old input output) (moment now left written) pending count) → Appends written more [] → HasWritten (moment old input output) (moment now next more) p.texts count []
written_so_far g old now input left next output written more pending count p w =
    subst (λ ts. Appends output more (answer_texts ts ++ [])) (sym (take_all count p.texts (let k = p.counted in let s = same_count g old now p.items p.texts p.answers in omega arith))) (Appends-trans output written more (answer_texts p.texts) [] p.writes w)

pub unremembered : {S : Type 0} (g : Ghosts S) (old now : Held S) (input left next output written more : Option (List ℕ)) (pending bytes : List ℕ) (count : ℕ)
    → Progress g (moment old input output) (moment now left written) pending count → Consumes left next bytes → Appends written more []
    → Replayed g (moment old input output) (moment now next more) (Err (record { stop = stops.Memory; done = count; answered = count }))
unremembered g old now input left next output written more pending bytes count p c w = (
  p.items,
  p.texts,
  done_so_far g old now input left next output written more pending bytes count p c,
  written_so_far g old now input left next output written more pending count p w,
  p.counted,
  inl refl,
)

-- a call of the reader failed, or there was no room for what it gave
pub unread : {S : Type 0} (g : Ghosts S) (old now : Held S) (input left next output written : Option (List ℕ)) (pending after : List ℕ) (count : ℕ) (stop : ReplayStop)
    → Progress g (moment old input output) (moment now left written) pending count → WantsMore pending → ReadsMore left next pending after (Err stop)
    → Replayed g (moment old input output) (moment now next written) (Err (record { stop = stop; done = count; answered = count }))
unread g old now input left next output written pending after count stops.Read p wants c =
    let q = read_on g old now input left next output written pending [] pending count p c (sym (append-nil pending)) in
    (q.items, pending, answered_all g old now input next output written pending count q (λ _. wanted_none pending wants), wanted_none pending wants, q.counted, q.counted)
unread g old now input left next output written pending after count stops.Memory p wants c =
    unremembered g old now input left next output written written pending c.0 count p c.1 (Appends-nil written)
unread g old now input left next output written pending after count stops.Write p wants c = absurd c
unread g old now input left next output written pending after count (stops.BadRecord index) p wants c = absurd c

-- one record more is done
done_one : {S : Type 0} (g : Ghosts S) (old now new : Held S) (input left output written more : Option (List ℕ)) (pending rest : List ℕ) (count : ℕ) (item : DeskRequest) (text : List ℕ)
    → (p : Progress g (moment old input output) (moment now left written) pending count) → IsRecord item.day item.bytes → pending ≡ record_text item.day item.bytes ++ rest → count < max_records
    → AnswersRecord g item now new text → HasDone g (moment old input output) (moment new left more) (p.items ++ item ∷ []) (p.texts ++ text ∷ [])
done_one g old now new input left output written more pending rest count item text p is e low a = record {
  rest = rest;
  reads = subst (Consumes input left) (ap (λ l. request_texts p.items ++ l) e ∙ sym (texts_more p.items item rest)) p.reads;
  each = are_all p.items (item ∷ []) p.each (is, tt);
  few = (let k = p.counted in let l = length-append p.items (item ∷ []) in omega arith);
  answers = answers_more g old now new p.items item p.texts text p.answers a;
}

-- and of its answer's record so much is written
written_one : {S : Type 0} (g : Ghosts S) (old now new : Held S) (input left output written more : Option (List ℕ)) (pending : List ℕ) (count : ℕ) (text part : List ℕ)
    → (p : Progress g (moment old input output) (moment now left written) pending count) → Appends written more part
    → HasWritten (moment old input output) (moment new left more) (p.texts ++ text ∷ []) count part
written_one g old now new input left output written more pending count text part p w =
    let same : take count (p.texts ++ text ∷ []) ≡ p.texts = ap (λ n. take n (p.texts ++ text ∷ [])) (p.counted ∙ sym (same_count g old now p.items p.texts p.answers)) ∙ front_of p.texts text in
    subst (λ ts. Appends output more (answer_texts ts ++ part)) (sym same) (Appends-trans output written more (answer_texts p.texts) part p.writes w)

more_items : (items : List DeskRequest) (item : DeskRequest) (count : ℕ) → count ≡ length items → count + 1 ≡ length (items ++ item ∷ [])
more_items items item count e = let l = length-append items (item ∷ []) in omega arith

-- an answer was not written whole
pub unwritten_stop : {S : Type 0} (g : Ghosts S) (old now new : Held S) (input left output written more : Option (List ℕ)) (pending rest : List ℕ) (count : ℕ) (item : DeskRequest) (fault : Unwritten) (T : Type 0)
    → Progress g (moment old input output) (moment now left written) pending count → IsRecord item.day item.bytes → pending ≡ record_text item.day item.bytes ++ rest → count < max_records
    → AnswersNext {T = T} (AnswersRecord g item now new) (new ≡ now) (Appends written more) (Err fault) → Replayed g (moment old input output) (moment new left more) (Err (fault_after count fault))
unwritten_stop g old now new input left output written more pending rest count item unwritten.Write T p is e low a = (
  p.items ++ item ∷ [],
  p.texts ++ a.0 ∷ [],
  take a.1 (answer_record a.0),
  done_one g old now new input left output written more pending rest count item a.0 p is e low a.2,
  written_one g old now new input left output written more pending count a.0 (take a.1 (answer_record a.0)) p a.4,
  (p.texts, a.0, a.1, refl, a.3, refl),
  more_items p.items item count p.counted,
  refl,
)
unwritten_stop g old now new input left output written more pending rest count item (unwritten.Memory true) T p is e low a = (
  p.items ++ item ∷ [],
  p.texts ++ a.0 ∷ [],
  done_one g old now new input left output written more pending rest count item a.0 p is e low a.1,
  written_one g old now new input left output written more pending count a.0 [] p a.2,
  more_items p.items item count p.counted,
  inr refl,
)
unwritten_stop {S} g old now new input left output written more pending rest count item (unwritten.Memory false) T p is e low a =
    let P : Held S → Type 0 = λ o. Progress g (moment old input output) (moment o left written) pending count in
    unremembered g old new input left left output written more pending [] count (subst P (sym a.0) p) (Consumes-nil left) a.1

-- no bytes answer: the office may have served the request before
pub unserved : {S : Type 0} (g : Ghosts S) (T : Type 0) (old new : Held S) (item : DeskRequest) (output : Option (List ℕ)) (told done : Bool) → told ≡ done
    → (done ≡ true → (answer : Answer) × ServesBytes item.day item.bytes (state g old) (state g new) answer) → (done ≡ false → new ≡ old)
    → AnswersNext {T = T} (AnswersRecord g item old new) (new ≡ old) (Appends output output) (Err (unwritten.Memory told))
unserved {S} g T old new item output told done e served kept = let P : Bool → Type 0 = λ d. AnswersNext {T = T} (AnswersRecord g item old new) (new ≡ old) (Appends output output) (Err (unwritten.Memory d)) in subst P (sym e) (by done served kept)
  where
    by : (d : Bool) → (d ≡ true → (answer : Answer) × ServesBytes item.day item.bytes (state g old) (state g new) answer) → (d ≡ false → new ≡ old) → AnswersNext {T = T} (AnswersRecord g item old new) (new ≡ old) (Appends output output) (Err (unwritten.Memory d))
    by true served kept = let a = served refl in (answer_text a.0, (true, (a.0, a.1, refl)), Appends-nil output)
    by false served kept = (kept refl, Appends-nil output)

-- the bytes of a record are heard as they are
pub heard_as : {S : Type 0} (g : Ghosts S) (old new : Held S) (day : Date) (given bytes text : List ℕ) (done : Bool) → given ≡ bytes
    → IsAnswered g (record { day = day; bytes = given }) (record { text = text; done = done }) old new → AnswersRecord g (record { day = day; bytes = bytes }) old new text
heard_as g old new day given bytes text done same it = (done, subst (λ (l : List ℕ). IsAnswered g (record { day = day; bytes = l }) (record { text = text; done = done }) old new) same it)
