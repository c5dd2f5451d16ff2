-- What holds and classes do over time, and what is served of a deposit.
use Rattle.office_history.proofs.FirstLemmas.{◌≡◌, ◌≢◌, ℕ, ◌+◌, true, List, [], ◌∷◌, ◌++◌, Option, Some, None, Result, Ok, Err, length, refl, sym, ap, subst, ◌∙◌, inl, inr, append_assoc, bytes_eq-Decides, Bor, Date, File, set_text, content_at, set_of, SetFault, Description, due_of, Answer, Refusal, DownloadBag, DownloadFile, item_numbered, History, Change, DefinedClass, OnCollection, OnClass, Deposit, with_changes, deposits, deposit_numbered, hold_numbered, release_day, released_in, covers, years_in, due, bag_of, valid_bag, if_valid, report_on, Report, refusal, answer, answer_unless, allowed_answer, told_of, change, changes_unless, deposit_change, after, Item, IsFailure, Step, Run, IsLater, first_said_front, last_said_last, numbered_last, grown_by_none, depositable, by_Option, one_deposit, bag_stays}
use Rattle.office_core.specs.declared.answer.Answer.TheVariants as answers
use Rattle.office_core.specs.declared.request.Request.TheVariants.{Deposit as MakeDeposit}

-- ---- holds

-- a hold of a collection reaches each of its deposits
pub covers_collection : (h : History) (k n : ℕ) (day : Date) (name matter : List ℕ) (deposit : Deposit) → hold_numbered h k ≡ Some (day, record { target = OnCollection name; matter = matter }) → deposit.description.collection ≡ name → covers h k n deposit ≡ true
covers_collection h k n day name matter deposit e same = rw (e, same) ((bytes_eq-Decides name name).1 refl)

-- and a hold of a class each deposit of the class
pub covers_class : (h : History) (k n : ℕ) (day : Date) (name matter : List ℕ) (deposit : Deposit) → hold_numbered h k ≡ Some (day, record { target = OnClass name; matter = matter }) → deposit.description.class ≡ name → covers h k n deposit ≡ true
covers_class h k n day name matter deposit e same = rw (e, same) ((bytes_eq-Decides name name).1 refl)

-- a hold that was released stays so
pub released_stays : (h : History) (more : List Change) (k : ℕ) (day : Date) → release_day h k ≡ Some day → release_day (with_changes h more) k ≡ Some day
released_stays h more k day e = first_said_front (released_in k) h.changes more day e

-- ---- classes

-- what the class was given last counts for each deposit of it, whenever that came
pub revised_due : (h : History) (day : Date) (name : List ℕ) (years : Option ℕ) (deposit : Deposit) → deposit.description.class ≡ name → due (with_changes h (DefinedClass day name years ∷ [])) deposit ≡ due_of deposit.description.closed years
revised_due h day name years deposit same =
    let says : years_in deposit.description.class (DefinedClass day name years) ≡ Some years = rw (same, (bytes_eq-Decides name name).1 refl) refl in
    rw (last_said_last (years_in deposit.description.class) h.changes (DefinedClass day name years) years says) refl

-- ---- runs add to the history

one_item : (h next : History) (item : Item) (given : Answer) → Step h item given next → IsLater h next
one_item h next item given (inl failed) = ([], failed.1 ∙ grown_by_none h)
one_item h next item given (inr served) = (change h item.0 item.1.now item.2, served.1)

pub later_still : (h mid next : History) → IsLater h mid → IsLater mid next → IsLater h next
later_still h mid next one rest =
    (one.0 ++ rest.0, rest.1 ∙ ap (λ (x : History). with_changes x rest.0) one.1 ∙ ap (λ (changes : List Change). record h { changes = changes }) (append_assoc h.changes one.0 rest.0))

pub run_grows : (items : List Item) (given : List Answer) (h next : History) → Run h items given next → IsLater h next
run_grows [] [] h next r = ([], r ∙ grown_by_none h)
run_grows (item ∷ items) (g ∷ given) h next r = later_still h r.0 next (one_item h r.0 item g r.1) (run_grows items given r.0 next r.2)
run_grows _ _ h next r = absurd r

-- ---- what was deposited

pub unrefused : (why : Option Refusal) (given wanted : Answer) → answer_unless why given ≡ wanted → ((r : Refusal) → wanted ≢ answers.Refused r) → (why ≡ None) × (given ≡ wanted)
unrefused None given wanted e other = (refl, e)
unrefused (Some r) given wanted e other = absurd (other r (sym e))

-- what the change of an allowed deposit adds
pub deposit_adds : (h : History) (day : Date) (caller : List ℕ) (description : Description) (text : Bor (List ℕ)) (bag : List File) → refusal h day caller (MakeDeposit description text) ≡ None → bag_of text.now ≡ Ok bag
    → deposits (after h day caller (MakeDeposit description text)) ≡ deposits h ++ (day, record { description = description; bag = bag }) ∷ []
deposit_adds h day caller description text bag e is =
    ap (λ (why : Option Refusal). deposits (with_changes h (changes_unless why (deposit_change day description (bag_of text.now))))) e
    ∙ ap (λ (r : Result (List File) (List ℕ)). deposits (with_changes h (deposit_change day description r))) is
    ∙ one_deposit h day (record { description = description; bag = bag }) [] refl

-- the bag that a text gives is read from it
pub read_of : (text : List ℕ) (bag : List File) → bag_of text ≡ Ok bag → set_of text ≡ Ok bag
read_of text bag e = by_set (set_of text) refl e
  where
    by_report : (files : List File) (r : Result Report (List ℕ)) → set_of text ≡ Ok files → if_valid files r ≡ Ok bag → set_of text ≡ Ok bag
    by_report files (Ok report) s e = let same : files ≡ bag = cc in s ∙ ap Ok same
    by_report files (Err fault) s e = absurd cc

    by_set : (r : Result (List File) SetFault) → set_of text ≡ r → valid_bag r ≡ Ok bag → set_of text ≡ Ok bag
    by_set (Err fault) s e = absurd cc
    by_set (Ok files) s e = by_report files (report_on files) s e

-- A deposit that was answered is in each later history with its bag, which is read from the text that was deposited.
pub record WasDeposited (next : History) (n : ℕ) (text : List ℕ) : Type 0 where
  pub found : Date × Deposit
  pub there : deposit_numbered next n ≡ Some found
  pub read : set_of text ≡ Ok found.1.bag

stands_later : (h next : History) (n : ℕ) (found : Date × Deposit) (text : List ℕ) → deposit_numbered h n ≡ Some found → set_of text ≡ Ok found.1.bag → IsLater h next → WasDeposited next n text
stands_later h next n found text there read after_it =
    let it = bag_stays h after_it.0 n found there in
    record { found = it.0; there = ap (λ x. deposit_numbered x n) after_it.1 ∙ it.1; read = read ∙ ap Ok (sym it.2) }

pub was_deposited : (h next : History) (day : Date) (n : ℕ) (caller : List ℕ) (description : Description) (bag : Bor (List ℕ))
    → answer h day caller (MakeDeposit description bag) ≡ answers.Deposited n
    → IsLater (after h day caller (MakeDeposit description bag)) next → WasDeposited next n bag.now
was_deposited h next day n caller description bag e after_it =
    let was = unrefused (refusal h day caller (MakeDeposit description bag)) (answers.Deposited (length (deposits h) + 1)) (answers.Deposited n) e (λ r. λ wrong. absurd cc) in
    let number : length (deposits h) + 1 ≡ n = (let same = was.1 in cc) in
    let allowed = depositable h day caller description bag.now was.0 in
    let made : Date × Deposit = (day, record { description = description; bag = allowed.0 }) in
    let mid = after h day caller (MakeDeposit description bag) in
    let there : deposit_numbered mid n ≡ Some made =
    ap (λ ds. item_numbered ds n) (deposit_adds h day caller description bag allowed.0 was.0 allowed.1)
    ∙ ap (λ m. item_numbered (deposits h ++ made ∷ []) m) (sym number) ∙ numbered_last (deposits h) made in
    stands_later mid next n made bag.now there (read_of bag.now allowed.0 allowed.1) after_it

-- of two items of a run, neither of which failed, the second was answered in a later history than the first made
pub record BothAnswered (h late : History) (first last : Item) (a b : Answer) : Type 0 where
  pub first_answer : answer h first.0 first.1.now first.2 ≡ a
  pub later : IsLater (after h first.0 first.1.now first.2) late
  pub last_answer : answer late last.0 last.1.now last.2 ≡ b

pub both_answered : (h mid late next : History) (items : List Item) (given : List Answer) (first last : Item) (a b : Answer)
    → (IsFailure a → ⊥) → (IsFailure b → ⊥) → Step h first a mid → Run mid items given late → Step late last b next → BothAnswered h late first last a b
both_answered h mid late next items given first last a b a_is b_is (inl failed) run end = absurd (a_is failed.0)
both_answered h mid late next items given first last a b a_is b_is (inr made) run (inl failed) = absurd (b_is failed.0)
both_answered h mid late next items given first last a b a_is b_is (inr made) run (inr served) = record {
  first_answer = sym made.0;
  later = subst (λ x. IsLater x late) made.1 (run_grows items given mid late run);
  last_answer = sym served.0;
}

-- what is served of a deposit is the form of its bag
pub served_form : (h : History) (day : Date) (caller : List ℕ) (n : ℕ) (found : Date × Deposit) (bytes : List ℕ) → deposit_numbered h n ≡ Some found → answer h day caller (DownloadBag n) ≡ answers.Bag bytes → bytes ≡ set_text found.1.bag
served_form h day caller n found bytes there e =
    let told_so = unrefused (refusal h day caller (DownloadBag n)) (allowed_answer h day caller (DownloadBag n)) (answers.Bag bytes) e (λ r. λ wrong. absurd cc) in
    let is : answers.Bag (set_text found.1.bag) ≡ answers.Bag bytes = ap (λ (o : Option (Date × Deposit)). told_of o (λ d. answers.Bag (set_text d.1.bag))) (sym there) ∙ told_so.1 in
    cc

-- a file that is served of a deposit is the content at the path
pub served_content : (h : History) (day : Date) (caller : List ℕ) (n : ℕ) (path : Bor (List ℕ)) (found : Date × Deposit) (bytes : List ℕ) → deposit_numbered h n ≡ Some found → answer h day caller (DownloadFile n path) ≡ answers.File bytes → content_at found.1.bag path.now ≡ Some bytes
served_content h day caller n path found bytes there e =
    let told_so = unrefused (refusal h day caller (DownloadFile n path)) (allowed_answer h day caller (DownloadFile n path)) (answers.File bytes) e (λ r. λ wrong. absurd cc) in
    let told = rw there at told_so.1 in
    by_Option (content_at found.1.bag path.now) (λ none. absurd (let wrong = rw none at told in cc)) (λ content is. let same = rw is at told in is ∙ ap Some cc)
