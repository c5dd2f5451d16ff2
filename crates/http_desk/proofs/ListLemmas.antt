-- Lists of records.
use Rattle.http_desk.proofs.Common.{◌≡◌, ℕ, zero, suc, ◌+◌, ◌<◌, ◌≤◌, List, [], ◌∷◌, ◌++◌, length, refl, sym, ap, ◌∙◌, arith, append_assoc, length-append, Date, line_text, record_text, IsSplit, AreRecords, request_texts, DeskRequest}
use Rattle.http_desk.proofs.FoundLemmas.{one_record, spelled_out}

same_item : (x y : DeskRequest) → x.day ≡ y.day → x.bytes ≡ y.bytes → x ≡ y
same_item x y d b = λ i. record { day = d i; bytes = b i }

-- after the first record the others are read
later : (most : ℕ) (input : List ℕ) (x : DeskRequest) (xs : List DeskRequest) (rest all : List ℕ) → IsSplit (suc most) input (x ∷ xs) rest → all ≡ request_texts xs ++ rest → IsSplit most all xs rest
later most input x xs rest all s e = record {
  text = e;
  each = s.each.1;
  few = let f = s.few in omega arith;
  ends = λ l. s.ends (omega arith);
}

first_out : (most : ℕ) (input : List ℕ) (x : DeskRequest) (xs : List DeskRequest) (rest : List ℕ) → IsSplit most input (x ∷ xs) rest → input ≡ record_text x.day x.bytes ++ (request_texts xs ++ rest)
first_out most input x xs rest s = s.text ∙ append_assoc (record_text x.day x.bytes) (request_texts xs) rest

none_before : (most : ℕ) (input rest rest' : List ℕ) (y : DeskRequest) (ys : List DeskRequest) → IsSplit most input [] rest → IsSplit most input (y ∷ ys) rest' → ⊥
none_before most input rest rest' y ys s t =
    s.ends (let f = t.few in omega arith) y.day y.bytes (request_texts ys ++ rest') t.each.0 (sym s.text ∙ first_out most input y ys rest' t)

pub one_split : (most : ℕ) (input rest rest' : List ℕ) (xs ys : List DeskRequest) → IsSplit most input xs rest → IsSplit most input ys rest' → (xs ≡ ys) × (rest ≡ rest')
one_split most input rest rest' [] [] s t = (refl, sym s.text ∙ t.text)
one_split most input rest rest' [] (y ∷ ys) s t = absurd (none_before most input rest rest' y ys s t)
one_split most input rest rest' (x ∷ xs) [] s t = absurd (none_before most input rest' rest x xs t s)
one_split zero input rest rest' (x ∷ xs) (y ∷ ys) s t = absurd (let f = s.few in omega arith)
one_split (suc most) input rest rest' (x ∷ xs) (y ∷ ys) s t =
    let h = one_record x.day y.day x.bytes y.bytes (request_texts xs ++ rest) (request_texts ys ++ rest') s.each.0 t.each.0 (sym (first_out (suc most) input x xs rest s) ∙ first_out (suc most) input y ys rest' t) in
    let others = one_split most (request_texts xs ++ rest) rest rest' xs ys (later most input x xs rest (request_texts xs ++ rest) s refl) (later most input y ys rest' (request_texts xs ++ rest) t h.2) in
    (ap (λ z. z ∷ xs) (same_item x y h.0 h.1) ∙ ap (λ zs. y ∷ zs) others.0, others.1)

-- one record more
pub texts_more : (items : List DeskRequest) (item : DeskRequest) (rest : List ℕ) → request_texts (items ++ item ∷ []) ++ rest ≡ request_texts items ++ (record_text item.day item.bytes ++ rest)
texts_more [] item rest = append_assoc (record_text item.day item.bytes) [] rest
texts_more (first ∷ items) item rest = append_assoc (record_text first.day first.bytes) (request_texts (items ++ item ∷ [])) rest ∙ ap (λ l. record_text first.day first.bytes ++ l) (texts_more items item rest) ∙ sym (append_assoc (record_text first.day first.bytes) (request_texts items) (record_text item.day item.bytes ++ rest))

pub are_all : (a b : List DeskRequest) → AreRecords a → AreRecords b → AreRecords (a ++ b)
are_all [] b x y = y
are_all (first ∷ a) b x y = (x.0, are_all a b x.1 y)

-- what follows a record is shorter than the input
pub rest_shorter : (input : List ℕ) (day : Date) (bytes rest : List ℕ) → input ≡ record_text day bytes ++ rest → length rest < length input
rest_shorter input day bytes rest e =
    let all : length input ≡ length (line_text day (length bytes)) + length (10 ∷ (bytes ++ 10 ∷ rest)) = ap length (e ∙ spelled_out day bytes rest) ∙ length-append (line_text day (length bytes)) (10 ∷ (bytes ++ 10 ∷ rest)) in
    let body : length (bytes ++ 10 ∷ rest) ≡ length bytes + length (10 ∷ rest) = length-append bytes (10 ∷ rest) in
    omega arith

-- each record has bytes
pub texts_long : (items : List DeskRequest) → length items ≤ length (request_texts items)
texts_long [] = omega arith
texts_long (item ∷ items) =
    let some = rest_shorter (record_text item.day item.bytes ++ request_texts items) item.day item.bytes (request_texts items) refl in
    let others = texts_long items in
    omega arith
