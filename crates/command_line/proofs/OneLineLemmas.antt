-- Words ask for one line.
use Rattle.command_line.proofs.Common.{◌≡◌, ◌∙◌, ◌∷◌, [], ℕ, List, Option, Some, None, Result, Ok, Err, IfOk, ap, ap₂, codes, decimal, refl, sym, unwrap_or, digits_value, Text, Date, day_text, Asks, FindsText, FindsDay, HasValues, IsDayText, IsNameOrNone, WritesNumber, name_word, subcommand_of, values_for, with_day, words_of, Line, Subcommand, Ask, Check, Explain, Pack, Policy, Replay, Serve, Unpack, UseFault}
use Rattle.command_line.specs.declared.line.Line.TheVariants as lines
use Rattle.command_line.proofs.LineLemmas.{one_name}

-- ---- the words that values write

abbrev text_at : (Text → Option Text) → Text → Text
text_at values name = unwrap_or (values name) []

abbrev replay_words : Option Text → Text → List Text
replay_words None store = codes "replay" ∷ store ∷ []
replay_words (Some policy) store = codes "replay" ∷ codes "--policy" ∷ policy ∷ store ∷ []

abbrev explain_words : Option Text → List Text → List Text
explain_words None words = codes "explain" ∷ words
explain_words (Some day) words = codes "explain" ∷ codes "--day" ∷ day ∷ words

abbrev written : Subcommand → (Text → Option Text) → List Text
written Check values = codes "check" ∷ text_at values (codes "FILE") ∷ []
written Pack values = codes "pack" ∷ text_at values (codes "DIR") ∷ text_at values (codes "FILE") ∷ []
written Unpack values = codes "unpack" ∷ text_at values (codes "FILE") ∷ text_at values (codes "DIR") ∷ []
written Explain values = explain_words (values (codes "DAY")) (
    text_at values (codes "POLICY") ∷ text_at values (codes "CALLER") ∷ text_at values (codes "ACTION") ∷ text_at values (codes "COLLECTION")
    ∷ text_at values (codes "CLASS") ∷ [])
written Policy values = codes "policy" ∷ text_at values (codes "STORE") ∷ text_at values (codes "POLICY") ∷ []
written Ask values = codes "ask" ∷ text_at values (codes "STORE") ∷ text_at values (codes "DAY") ∷ []
written Replay values = replay_words (values (codes "POLICY")) (text_at values (codes "STORE"))
written Serve values =
    codes "serve" ∷ codes "--port" ∷ decimal (digits_value 10 (text_at values (codes "P"))) ∷ codes "--count" ∷ decimal (digits_value 10 (text_at values (codes "N")))
    ∷ text_at values (codes "STORE") ∷ text_at values (codes "DAY") ∷ []

-- ---- they are those of the line

same_text : (values : Text → Option Text) (name text : Text) → values name ≡ Some text → text ≡ text_at values name
same_text values name text is = ap (λ o. unwrap_or o []) (sym is)

same_day : (values : Text → Option Text) (name : Text) (day : Date) → FindsText values name (λ text. IsDayText text day) → day_text day ≡ text_at values name
same_day values name day found = sym found.2.1 ∙ same_text values name found.0 found.1

same_name : (values : Text → Option Text) (name : Text) (wanted : Option Text) → FindsText values name (λ text. IsNameOrNone text wanted) → name_word wanted ≡ text_at values name
same_name values name wanted found = sym found.2.1 ∙ same_text values name found.0 found.1

same_number : (values : Text → Option Text) (name text : Text) (number : ℕ) → values name ≡ Some text → WritesNumber text number
    → decimal number ≡ decimal (digits_value 10 (text_at values name))
same_number values name text number is writes = ap decimal (sym writes.1) ∙ ap (λ (t : Text). decimal (digits_value 10 t)) (same_text values name text is)

cons : (x y : Text) (xs ys : List Text) → x ≡ y → xs ≡ ys → x ∷ xs ≡ y ∷ ys
cons x y xs ys first rest = ap₂ (λ (z : Text) (zs : List Text). z ∷ zs) first rest

same_replay : (policy : Option Text) (values : Text → Option Text) (store : Text) → values (codes "POLICY") ≡ policy → store ≡ text_at values (codes "STORE")
    → replay_words policy store ≡ written Replay values
same_replay policy values store with same = ap₂ replay_words (sym with) same

same_explain : (day : Option Date) (values : Text → Option Text) (words : List Text) → FindsDay values (codes "DAY") day
    → codes "explain" ∷ with_day day words ≡ explain_words (values (codes "DAY")) words
same_explain None values words is = ap (λ (d : Option Text). explain_words d words) (sym is)
same_explain (Some day) values words found =
    ap (λ (t : Text). explain_words (Some t) words) (sym found.2.1) ∙ ap (λ (d : Option Text). explain_words d words) (sym found.1)

is_written : (values : Text → Option Text) (line : Line) → HasValues values line → words_of line ≡ written (subcommand_of line) values
is_written values (lines.Check file) is = cons _ _ _ _ refl (cons _ _ _ _ (same_text values (codes "FILE") file.now is) refl)
is_written values (lines.Pack folder file) is =
    cons _ _ _ _ refl (cons _ _ _ _ (same_text values (codes "DIR") folder.now is.0) (cons _ _ _ _ (same_text values (codes "FILE") file.now is.1) refl))
is_written values (lines.Unpack file folder) is =
    cons _ _ _ _ refl (cons _ _ _ _ (same_text values (codes "FILE") file.now is.0) (cons _ _ _ _ (same_text values (codes "DIR") folder.now is.1) refl))
is_written values (lines.Explain asked) is =
    same_explain asked.day values _ is.day
    ∙ ap (explain_words (values (codes "DAY")))
    (cons _ _ _ _ (same_text values (codes "POLICY") asked.policy.now is.policy)
    (cons _ _ _ _ (same_text values (codes "CALLER") asked.caller.now is.caller)
    (cons _ _ _ _ (same_text values (codes "ACTION") _ is.action)
    (cons _ _ _ _ (same_name values (codes "COLLECTION") asked.collection is.collection)
    (cons _ _ _ _ (same_name values (codes "CLASS") asked.class is.class) refl)))))
is_written values (lines.Policy store policy) is =
    cons _ _ _ _ refl (cons _ _ _ _ (same_text values (codes "STORE") store.now is.0) (cons _ _ _ _ (same_text values (codes "POLICY") policy.now is.1) refl))
is_written values (lines.Ask store day) is =
    cons _ _ _ _ refl (cons _ _ _ _ (same_text values (codes "STORE") store.now is.0) (cons _ _ _ _ (same_day values (codes "DAY") day is.1) refl))
is_written values (lines.Replay None store) is = same_replay None values store.now is.0 (same_text values (codes "STORE") store.now is.1)
is_written values (lines.Replay (Some policy) store) is = same_replay (Some policy.now) values store.now is.0 (same_text values (codes "STORE") store.now is.1)
is_written values (lines.Serve port count store day) is =
    cons _ _ _ _ refl
    (cons _ _ _ _ refl
    (cons _ _ _ _ (same_number values (codes "P") is.at_port.0 port is.at_port.1 is.at_port.2.0)
    (cons _ _ _ _ refl
    (cons _ _ _ _ (same_number values (codes "N") is.at_count.0 count is.at_count.1 is.at_count.2.0)
    (cons _ _ _ _ (same_text values (codes "STORE") store.now is.at_store)
    (cons _ _ _ _ (same_day values (codes "DAY") day is.at_day) refl))))))

-- whatever words ask for is written in the same way
one_line : (words : List Text) (a b : Line) → Asks words a → Asks words b → words_of a ≡ words_of b
one_line words a b asks too =
    is_written (values_for (subcommand_of a) words) a asks.values
    ∙ ap (λ (s : Subcommand). written s (values_for s words)) (one_name words (subcommand_of a) (subcommand_of b) asks.first too.first)
    ∙ sym (is_written (values_for (subcommand_of b) words) b too.values)

pub only_line : (words : List Text) (read : Result Line UseFault) → IfOk read (Asks words) → IfOk read (λ line. (other : Line) → Asks words other → words_of other ≡ words_of line)
only_line words (Ok line) asks = λ other too. one_line words other line too asks
only_line words (Err fault) asks = tt
