-- What came of one connection, and of several in turn.
use Rattle.desk_listening.proofs.Common.{◌≡◌, ℕ, List, [], ◌∷◌, ◌++◌, Bool, true, false, cond, ◌+◌, ◌<◌, ◌≤◌, Option, Some, None, IfOk, IfSome, Result, Ok, Err, OnErr, OnOk, ◌⊎◌, inl, inr, length, take, count_by, refl, sym, ◌∙◌, ap, subst, append-nil, arith, bool_byte, Appends, Consumes, IsAtEnd, device_of, OfficeNote, Connection, served, refused, lost, IsAfter, IsAfterAll, IsOf, IsRun, ReportsConnection, answers_of, is_answered, is_served, items_of, noted, Takes, TakesAll, IsWritten, Leaves, Link, Talks, WritesBeginning}
use Rattle.jiff.specs.Types.{Date}
use Rattle.sqlite.specs.Held.{Held, state}
use Rattle.sqlite.specs.State.{State, HasCleanDisk}
use Rattle.sqlite.specs.Store.{Ghosts}
use Rattle.office_core.specs.declared.answer.Answer.{Answer}
use Rattle.office_history.specs.Runs.{Item}
use Rattle.office_engine.specs.Storing.{IsStoredBy, Runs, TakesStep}
use Rattle.std.proofs.lemmas.List.Sums.{sum_by-append}
use Rattle.std.proofs.lemmas.Option.{IfSome_then}
use Rattle.std.specs.Prelude.{MatchBool}
use Rattle.std.specs.declared.io.Read.{Ghosts as Reads}
use Rattle.std.specs.declared.io.Write.{Ghosts as Writes}
use Rattle.desk_devices.specs.declared.counted.Counted.{Counted}
use Rattle.desk_routes.specs.declared.refusal.DeskRefusal.TheVariants.{Truncated}
use Rattle.desk_answers.specs.Answers.{answer_text, refusal_text}
use Rattle.desk_answers.specs.Bodies.{content_of, status_of}
use Rattle.desk_answers.specs.DeskRefusals.{allow_line, desk_data, desk_status}
use Rattle.desk_answers.specs.Responses.{Content, json, response_text}
use Rattle.desk_answers.specs.declared.status.Status.{Status}
use Rattle.desk_hearing.specs.Hearing.{Hears}
use Rattle.desk_serving.specs.declared.serving.DeskFault.{DeskFault}
use Rattle.desk_serving.specs.declared.serving.DeskFault.TheVariants.{Read, Write, Memory}
use Rattle.desk_serving.specs.Serving.{IsNoted, ServesNoted}
use Rattle.desk_listening.specs.declared.draining.Drained.{Drained}
use Rattle.desk_listening.specs.declared.listener.Listener.{Ghosts as Listeners}
use Rattle.desk_listening.specs.declared.patience.Patience.{Patience}
use Rattle.desk_listening.specs.declared.peer.Peer.{Ghosts as Peers}

-- ---- how many were answered

abbrev one_if : Bool → ℕ
one_if b = cond b 1 0

count_more : (connections : List Connection) (last : Connection) → count_by is_answered (connections ++ last ∷ []) ≡ count_by is_answered connections + one_if (is_answered last)
count_more connections last = let both = sum_by-append (λ x. one_if (is_answered x)) connections (last ∷ []) in omega (arith, both)

one_if_is : (b : Bool) → one_if b ≡ bool_byte b
one_if_is true = refl
one_if_is false = refl

pub counted : (connections : List Connection) (last : Connection) (n : ℕ) (whole : Bool) → is_answered last ≡ whole → count_by is_answered connections ≡ n
    → count_by is_answered (connections ++ last ∷ []) ≡ n + bool_byte whole
counted connections last n whole is so_far =
    let one : one_if (is_answered last) ≡ bool_byte whole = ap one_if is ∙ one_if_is whole in omega (arith, count_more connections last, so_far, one)

pub small : (b : Bool) → bool_byte b ≤ 1
small true = omega arith
small false = omega arith

-- ---- how a peer is left

pub left_so : {E A C D : Type 0} (B : Drained → Type 0) (result : Result Drained E) → OnOk result A → IfOk result B → OnErr result C → OnErr result D → ((drained : Drained) × A × B drained) ⊎ (C × D)
left_so B (Ok drained) shut dropped failed kept = inl (drained, shut, dropped)
left_so B (Err e) shut dropped failed kept = inr (failed, kept)

module _ {P R W : Type 0} (p : Peers P R W) (r : Reads R) (w : Writes W) (patience : Patience) (old new : Link P R W) where
  abbrev pub LeavesAfter : Bool → Type 0
  LeavesAfter whole = MatchBool whole (Leaves (record { peer = p; reads = r; writes = w }) patience old new) (new.peer ≡ old.peer)

  -- after a whole answer
  pub left_whole : (whole : Bool) → whole ≡ true → Leaves (record { peer = p; reads = r; writes = w }) patience old new → LeavesAfter whole
  left_whole whole is left = subst LeavesAfter (sym is) left

  -- after any other
  pub left_alone : (whole : Bool) → whole ≡ false → new.peer ≡ old.peer → LeavesAfter whole
  left_alone whole is left = subst LeavesAfter (sym is) left

-- ---- a result that is known

pub on_ok_is : {T E P : Type 0} (result : Result T E) (x : T) → result ≡ Ok x → OnOk result P → P
on_ok_is {T = T} {E = E} {P = P} result x same it = subst (λ (r : Result T E). OnOk r P) same it

pub reports : {T : Type 0} (result other : Result T DeskFault) (connection : Connection) → result ≡ other → ReportsConnection result connection → ReportsConnection other connection
reports {T = T} result other connection same it = subst (λ (r : Result T DeskFault). ReportsConnection r connection) same it

-- ---- one more connection is taken

pub takes_more : {L P : Type 0} (l : Listeners L P) (Treats : P → Connection → P → Type 0) (connections : List Connection) (last : Connection) (old mid new : L)
    → TakesAll l Treats connections old mid → Takes l Treats last mid new → TakesAll l Treats (connections ++ last ∷ []) old new
takes_more l Treats [] last old mid new none it = (new, subst (λ (x : _). Takes l Treats last x new) none it, refl)
takes_more l Treats (connection ∷ more) last old mid new all it = (all.0, all.1, takes_more l Treats more last all.0 mid new all.2 it)

-- ---- the bytes of a connection

-- the bytes that something is so of: all that there are, where these are known
known : (all : Option (List ℕ)) (P : List ℕ → Type 0) (given : List ℕ) → P given → IfSome all P → (bytes : List ℕ) × P bytes × IfSome all (λ input. bytes ≡ input)
known None P given it whole = (given, it, tt)
known (Some input) P given it whole = (input, whole, refl)

of_input : (all : Option (List ℕ)) (bytes : List ℕ) (connection : Connection) → IsOf bytes connection → IfSome all (λ input. bytes ≡ input) → IfSome all (λ input. IsOf input connection)
of_input all bytes connection it same = IfSome_then all same (λ input e. subst (λ x. IsOf x connection) e it)

of_lost : (all : Option (List ℕ)) → IfSome all (λ input. IsOf input lost)
of_lost None = tt
of_lost (Some input) = tt

-- ---- what is written

-- each response begins with the version of HTTP
started : (status : Status) (allow : List ℕ) (content : Content) → 0 < length (response_text status allow content)
started status allow content = omega arith

unbegun : (held : Option (List ℕ)) (text : List ℕ) → 0 < length text → WritesBeginning held held text
unbegun None text some = (0, some, tt)
unbegun (Some xs) text some = (0, some, sym (append-nil xs))

-- a writer that wasn't called has written a beginning of each text: nothing
uncalled : {W : Type 0} (contents : W → Option (List ℕ)) (writer writer' : Counted W) (text : List ℕ) → writer' ≡ writer → 0 < length text
    → WritesBeginning (contents (device_of writer)) (contents (device_of writer')) text
uncalled contents writer writer' text same some = subst (λ (x : Counted _). WritesBeginning (contents (device_of writer)) (contents (device_of x)) text) (sym same) (unbegun (contents (device_of writer)) text some)

no_answer : {W : Type 0} (contents : W → Option (List ℕ)) (writer writer' : Counted W) (answer : Answer) → writer' ≡ writer
    → WritesBeginning (contents (device_of writer)) (contents (device_of writer')) (answer_text answer)
no_answer contents writer writer' answer same = uncalled contents writer writer' (answer_text answer) same (started (status_of answer) [] (content_of answer))

no_refusal : {W : Type 0} (contents : W → Option (List ℕ)) (writer writer' : Counted W) → writer' ≡ writer → IsWritten lost (contents (device_of writer)) (contents (device_of writer'))
no_refusal contents writer writer' same =
    (Truncated, uncalled contents writer writer' (refusal_text Truncated) same (started (desk_status Truncated) (allow_line Truncated) (json (desk_data Truncated))))

-- over ends that nothing was done with
pub untouched : {P R W : Type 0} (p : Peers P R W) (r : Reads R) (w : Writes W) (patience : Patience) (link : Link P R W) → Talks (record { peer = p; reads = r; writes = w }) patience link lost link
untouched p r w patience link = record {
  heard = of_lost (r.remaining (device_of link.ends.reader));
  written = no_refusal w.contents link.ends.writer link.ends.writer refl;
  left = refl;
}

module _ {S : Type 0} (g : Ghosts S) (day : Date) where
  -- ---- one connection, of which this is reported and noted

  record Came (old new : Held S) (held holds : Option (List ℕ)) (bytes : List ℕ) (whole done : Bool) (note : Option OfficeNote) : Type 0 where
    connection : Connection
    after : IsAfter g day connection old new
    whole_is : is_answered connection ≡ whole
    done_is : is_served connection ≡ done
    note_is : note ≡ noted connection
    heard : IsOf bytes connection
    written : IsWritten connection held holds

  nothing : (old new : Held S) (held holds : Option (List ℕ)) (bytes : List ℕ) (note : Option OfficeNote) → new ≡ old → note ≡ None → IsWritten lost held holds → Came old new held holds bytes false false note
  nothing old new held holds bytes note same none written = record { connection = lost; after = same; whole_is = refl; done_is = refl; note_is = none; heard = tt; written = written }

  by_office : (old new : Held S) (held holds : Option (List ℕ)) (whole : Bool) (bytes : List ℕ) (note : Option OfficeNote) (answer : Answer) (it : ServesNoted (record { day = day; bytes = bytes }) note (state g old) (state g new) answer)
      → IsWritten (served bytes it.0.2.item answer whole) held holds → Came old new held holds bytes whole true note
  by_office old new held holds whole bytes note answer it written =
      record { connection = served bytes it.0.2.item answer whole; after = (it.0.0, it.0.1, it.0.2, refl); whole_is = refl; done_is = refl; note_is = it.1; heard = refl; written = written }

  whole : (old new : Held S) (held holds : Option (List ℕ)) (done : Bool) (bytes text : List ℕ) (note : Option OfficeNote) → IsNoted g (record { day = day; bytes = bytes }) (record { text = text; done = done; note = note }) old new → Appends held holds text
      → Came old new held holds bytes true done note
  whole old new held holds true bytes text note it appends = by_office old new held holds true bytes note it.0 it.1 (subst (Appends held holds) it.2 appends)
  whole old new held holds false bytes text note it appends =
      record { connection = refused bytes it.0; after = (it.1, it.2); whole_is = refl; done_is = refl; note_is = it.4; heard = refl; written = subst (Appends held holds) it.3 appends }

  cut : (old new : Held S) (held holds : Option (List ℕ)) (done : Bool) (bytes text : List ℕ) (note : Option OfficeNote) → IsNoted g (record { day = day; bytes = bytes }) (record { text = text; done = done; note = note }) old new → WritesBeginning held holds text
      → Came old new held holds bytes false done note
  cut old new held holds true bytes text note it begins = by_office old new held holds false bytes note it.0 it.1 (subst (WritesBeginning held holds) it.2 begins)
  cut old new held holds false bytes text note it begins = nothing old new held holds bytes note it.2 it.4 (it.0, subst (WritesBeginning held holds) it.3 begins)

  -- ---- what is reported of it

  module _ {W : Type 0} (contents : W → Option (List ℕ)) (old new : Held S) (reader reader' : Option (List ℕ)) (writer writer' : Counted W) (note : Option OfficeNote) (failed failed' : Type 0) where
    pub record Told {T : Type 0} (result : Result T DeskFault) : Type 0 where
      pub connection : Connection
      pub after : IsAfter g day connection old new
      pub tells : ReportsConnection result connection
      pub notes : note ≡ noted connection
      pub heard : IfSome reader (λ input. IsOf input connection)
      pub written : IsWritten connection (contents (device_of writer)) (contents (device_of writer'))

    -- what was answered, and written of it, over some bytes
    abbrev pub Written : List ℕ → Type 0
    Written bytes =
        (text : List ℕ) × (done : Bool) × IsNoted g (record { day = day; bytes = bytes }) (record { text = text; done = done; note = note }) old new × Appends (contents (device_of writer)) (contents (device_of writer')) text

    abbrev pub Begun : Bool → List ℕ → Type 0
    Begun done bytes = (text : List ℕ) × (count : ℕ) × IsNoted g (record { day = day; bytes = bytes }) (record { text = text; done = done; note = note }) old new × (count < length text)
        × Appends (contents (device_of writer)) (contents (device_of writer')) (take count text)

    abbrev pub Unwritten : List ℕ → Type 0
    Unwritten bytes = (answer : Answer) × ServesNoted (record { day = day; bytes = bytes }) note (state g old) (state g new) answer

    abbrev pub Answers : Type 0
    Answers = (given text : List ℕ) × (done : Bool) × Consumes reader reader' given × IsNoted g (record { day = day; bytes = given }) (record { text = text; done = done; note = note }) old new
        × Appends (contents (device_of writer)) (contents (device_of writer')) text × (Hears given (Err Truncated) → IsAtEnd reader')

    abbrev pub Fails : Type 0
    Fails = (given : List ℕ) × Consumes reader reader' given × Hears given (Err Truncated) × failed × (new ≡ old) × (writer' ≡ writer) × (note ≡ None)

    abbrev pub Stops : Bool → Type 0
    Stops done = (given text : List ℕ) × (count : ℕ) × Consumes reader reader' given × IsNoted g (record { day = day; bytes = given }) (record { text = text; done = done; note = note }) old new × (count < length text)
        × Appends (contents (device_of writer)) (contents (device_of writer')) (take count text) × failed' × (Hears given (Err Truncated) → IsAtEnd reader')

    abbrev pub Wants : Type 0
    Wants = (given : List ℕ) × (answer : Answer) × Consumes reader reader' given × ServesNoted (record { day = day; bytes = given }) note (state g old) (state g new) answer × (writer' ≡ writer)

    pub told : {T : Type 0} (result : Result T DeskFault) → OnOk result Answers → (result ≡ Err Read → Fails) → ((done : Bool) → result ≡ Err (Write done) → Stops done)
        → (result ≡ Err (Memory true) → Wants) → (result ≡ Err (Memory false) → (new ≡ old) × (writer' ≡ writer) × (note ≡ None))
        → OnOk result (IfSome reader Written) → ((done : Bool) → result ≡ Err (Write done) → IfSome reader (Begun done)) → (result ≡ Err (Memory true) → IfSome reader Unwritten) → Told result
    told (Ok _) answers fails stops wants none whole_written whole_begun whole_unwritten =
        let heard = known reader Written answers.0 (answers.1, answers.2, answers.4, answers.5) whole_written in
        let it = whole old new _ _ heard.1.1 heard.0 heard.1.0 note heard.1.2 heard.1.3 in
        record { connection = it.connection; after = it.after; tells = it.whole_is; notes = it.note_is; heard = of_input reader heard.0 it.connection it.heard heard.2; written = it.written }
    told (Err Read) answers fails stops wants none whole_written whole_begun whole_unwritten =
        record { connection = lost; after = (fails refl).4; tells = (refl, refl); notes = (fails refl).6; heard = of_lost reader; written = no_refusal contents writer writer' (fails refl).5 }
    told (Err (Write done)) answers fails stops wants none whole_written whole_begun whole_unwritten =
        let at = stops done refl in
        let heard = known reader (Begun done) at.0 (at.1, at.2, at.4, at.5, at.6) (whole_begun done refl) in
        let it = cut old new _ _ done heard.0 heard.1.0 note heard.1.2 (heard.1.1, heard.1.3, heard.1.4) in
        record { connection = it.connection; after = it.after; tells = (it.whole_is, it.done_is); notes = it.note_is; heard = of_input reader heard.0 it.connection it.heard heard.2; written = it.written }
    told (Err (Memory true)) answers fails stops wants none whole_written whole_begun whole_unwritten =
        let at = wants refl in
        let heard = known reader Unwritten at.0 (at.1, at.3) (whole_unwritten refl) in
        let it = by_office old new _ _ false heard.0 note heard.1.0 heard.1.1 (no_answer contents writer writer' heard.1.0 at.4) in
        record { connection = it.connection; after = it.after; tells = (it.whole_is, it.done_is); notes = it.note_is; heard = of_input reader heard.0 it.connection it.heard heard.2; written = it.written }
    told (Err (Memory false)) answers fails stops wants none whole_written whole_begun whole_unwritten =
        record { connection = lost; after = (none refl).0; tells = (refl, refl); notes = (none refl).2; heard = of_lost reader; written = no_refusal contents writer writer' (none refl).1 }

  -- ---- one more

  pub one_more : (connections : List Connection) (last : Connection) (old mid new : Held S) → IsAfterAll g day connections old mid → IsAfter g day last mid new → IsAfterAll g day (connections ++ last ∷ []) old new
  one_more [] last old mid new none it = (new, subst (λ (x : Held S). IsAfter g day last x new) none it, refl)
  one_more (connection ∷ more) last old mid new all it = (all.0, all.1, one_more more last all.0 mid new all.2 it)

  -- ---- what the office served is a run

  record Ran (connections : List Connection) (old new : Held S) : Type 0 where
    clean : HasCleanDisk (state g old)
    runs : Runs (state g old) (state g new) (items_of connections) (answers_of connections)

  step_runs : (old mid new : State) (item : Item) (items : List Item) (answer : Answer) (answers : List Answer) → TakesStep old mid item answer → Runs mid new items answers → Runs old new (item ∷ items) (answer ∷ answers)
  step_runs old mid new item items answer answers one more h legal keeps =
      let first = one h legal keeps in
      let rest = more first.0 first.2.legal first.2.kept in
      (rest.0, (first.0, first.1, rest.1), rest.2)

  ran : (connections : List Connection) (old new : Held S) → IsAfterAll g day connections old new → HasCleanDisk (state g new) → Ran connections old new
  ran [] old new same clean = record {
    clean = subst (λ (x : Held S). HasCleanDisk (state g x)) same clean;
    runs = λ h legal keeps. (h, refl, record { legal = legal; kept = subst (λ (x : Held S). IsStoredBy h (state g x)) (sym same) keeps });
  }
  ran (served bytes item answer all_written ∷ more) old new all clean =
      let rest = ran more all.0 new all.2 clean in
      let it = all.1.2 in
      record {
        clean = it.clean rest.clean;
        runs = subst (λ (x : Item). Runs (state g old) (state g new) (x ∷ items_of more) (answer ∷ answers_of more)) all.1.3
            (step_runs (state g old) (state g all.0) (state g new) it.item (items_of more) answer (answers_of more) ((it.turn rest.clean).served) rest.runs);
      }
  ran (refused bytes refusal ∷ more) old new all clean =
      let rest = subst (λ (x : Held S). Ran more x new) all.1.1 (ran more all.0 new all.2 clean) in
      record { clean = rest.clean; runs = rest.runs }
  ran (lost ∷ more) old new all clean =
      let rest = subst (λ (x : Held S). Ran more x new) all.1 (ran more all.0 new all.2 clean) in
      record { clean = rest.clean; runs = rest.runs }

  pub is_run : (connections : List Connection) (old new : Held S) → IsAfterAll g day connections old new → IsRun g connections old new
  is_run connections old new all clean = (ran connections old new all clean).runs
