use Rattle.office_queries.proofs.Common.{ap, refl, ◌∙◌, ◌≡◌, ℕ, pos, Bool, List, Option, None, Some, true, subst, sym, option_copied, option_map, if◌then◌else◌, IfSome, Bor, state, Request, FileRow, Tables, file_at, file_answer, content_stored, Contents, Rows, contents_after, is_intact_at, rows_of, downloads_intact}
use Rattle.bag_text.specs.Paths.{is_good}
use Rattle.office_core.specs.declared.request.Request.TheVariants as requests
use Rattle.office_queries.proofs.PathsTold.{spelled, unspelled}
use Rattle.office_queries.proofs.files.stored_file.Goals as goal

-- whether or not there is a file, no content changes
leaves : (t : Tables) (request : Request) (content : Option (List ℕ)) (k : Contents) → contents_after t request (file_answer content) k ≡ k
leaves t request None k = refl
leaves t request (Some content) k = refl

-- what is served is intact, whether or not there is a file
served : {X : Type 0} (r : Rows) (n : ℕ) (path : Bor (List ℕ)) (bytes : X → List ℕ) (content : Option X) → IfSome content (λ _. is_intact_at n path.now r ≡ true) → downloads_intact r (requests.DownloadFile n path) (file_answer (option_map bytes content)) ≡ true
served r n path bytes None intact = refl
served r n path bytes (Some content) intact = intact

pub returns-in_ok-content-in-Some-clause-reads : goal.returns-in_ok-content-in-Some-clause-reads
returns-in_ok-content-in-Some-clause-reads g c clean office =
    let a = c.args in
    let r = rows_of (state g.S.Store a.tx.now.conn.now).now in
    let request = requests.DownloadFile a.number a.path in
    let call = c.in_ok-content-in-Some in
    let content = call.content in
    let bytes = option_map (λ bytes. bytes.items) content in
    let stored : List ℕ → Option (List ℕ) = λ path. option_map (λ (f : FileRow). f.content) (file_at (pos a.number) path r.tables.files) in
    let spelt = spelled (is_good a.path.now) c.in-Some.text.now a.path.now (ap option_copied (sym c.in-Some.is) ∙ c.bag_path.ensures) in
    let told : content_stored a.number a.path.now r.tables ≡ bytes = ap (λ (b : Bool). if b then stored a.path.now else None) spelt.1 ∙ ap stored (sym spelt.0) ∙ sym (call.ensures.found clean office) in
    let intact = subst (λ path. IfSome content (λ _. is_intact_at a.number path r ≡ true)) spelt.0 (call.ensures.intact clean office) in
    record {
      same = call.ensures.same clean office;
      answered = λ visit. ap (λ content. Some (file_answer content)) told ∙ ap Some (sym c.file_answer.ensures);
      intact = ap (downloads_intact r request) c.file_answer.ensures ∙ served r a.number a.path (λ bytes. bytes.items) content intact;
      leaves = λ k. ap (λ given. contents_after r.tables request given k) c.file_answer.ensures ∙ leaves r.tables request bytes k;
    }

pub returns-in-None-clause-reads : goal.returns-in-None-clause-reads
returns-in-None-clause-reads g c clean office =
    let a = c.args in
    let r = rows_of (state g.S.Store a.tx.now.conn.now).now in
    let request = requests.DownloadFile a.number a.path in
    let given = c.file_answer-in-None.ensures in
    let bad = unspelled (is_good a.path.now) a.path.now (ap option_copied (sym c.in-None.is) ∙ c.bag_path.ensures) in
    let told : content_stored a.number a.path.now r.tables ≡ None = ap (λ (b : Bool). if b then option_map (λ (f : FileRow). f.content) (file_at (pos a.number) a.path.now r.tables.files) else None) bad in
    record {
      same = refl;
      answered = λ visit. ap (λ content. Some (file_answer content)) told ∙ ap Some (sym given);
      intact = ap (downloads_intact r request) given;
      leaves = λ k. ap (λ given. contents_after r.tables request given k) given;
    }
