-- Which rows a longer history leaves as they were.
use Rattle.office_refines.proofs.Common.{◌≡◌, ℕ, List, [], ◌∷◌, ◌++◌, map, filter, length, Option, None, option_map, unwrap_or, is_none, sym, ap, ◌∙◌, append-nil, pos, ◌&&◌, false, filter_map, flat_map, option_or, option_map_or, filter_map-append, Date, due_of, Never, ClassRow, DepositRow, DueRow, FileRow, HoldRow, this_version, first_said, last_said, item_numbered, numbers, in_first_places, History, Change, Deposit, with_changes, installed_in, policy, years_in, years_of, destroyed_in, destruction_day, due, released_in, release_day, reaches, live_holds, class_in, class_row, class_rows, caller_row, rule_rows, office_row, collection_rows, row_by_gone, deposit_rows, due_row, due_rows, file_row, file_rows, row_by_release, hold_rows, picture, or_none, last_said-append, policy_grown, gone_grown, released_grown, due_number, LeavesCollections, LeavesDeposits, LeavesHolds, same_collections, same_deposits, same_holds}

module _ (h : History) (more : List Change) where
  -- what says of a history: none of `more`
  same_said : {B : Type 0} (says : Change → Option B) → filter_map says more ≡ [] → filter_map says (with_changes h more).changes ≡ filter_map says h.changes
  same_said says none = filter_map-append says h.changes more ∙ ap (λ xs. filter_map says h.changes ++ xs) none ∙ append-nil (filter_map says h.changes)

  -- it installs nothing
  same_policy : last_said installed_in more ≡ None → policy (with_changes h more) ≡ policy h
  same_policy none = policy_grown h more ∙ ap (λ o. unwrap_or o (policy h)) none

  pub years_grown : (name : List ℕ) → years_of (with_changes h more) name ≡ option_or (last_said (years_in name) more) (years_of h name)
  years_grown name = last_said-append (years_in name) h.changes more

  -- it defines no class
  same_years : ((name : List ℕ) → last_said (years_in name) more ≡ None) → (name : List ℕ) → years_of (with_changes h more) name ≡ years_of h name
  same_years none name = years_grown name ∙ ap (λ o. option_or o (years_of h name)) (none name)

  pub same_due : ((name : List ℕ) → last_said (years_in name) more ≡ None) → (d : Deposit) → due h d ≡ due (with_changes h more) d
  same_due none d = λ i. option_map_or (due_of d.description.closed) (sym (same_years none d.description.class) i) Never

  pub same_classes : filter_map class_in more ≡ [] → ((name : List ℕ) → last_said (years_in name) more ≡ None) → class_rows (with_changes h more) ≡ class_rows h
  same_classes none silent = λ i. filter_map (λ name. option_map (class_row name) (same_years silent name i)) (in_first_places (same_said class_in none i))

  -- it defines no collection
  pub same_collection_rows : LeavesCollections more → collection_rows (with_changes h more) ≡ collection_rows h
  same_collection_rows none = ap in_first_places (same_collections h more none)

  -- it destroys no deposit
  pub same_gone : ((n : ℕ) → first_said (destroyed_in n) more ≡ None) → (n : ℕ) → destruction_day (with_changes h more) n ≡ destruction_day h n
  same_gone none n = gone_grown h more n ∙ ap (option_or (destruction_day h n)) (none n) ∙ or_none (destruction_day h n)

  pub same_deposit_rows : LeavesDeposits more → ((n : ℕ) → first_said (destroyed_in n) more ≡ None) → deposit_rows (with_changes h more) ≡ deposit_rows h
  same_deposit_rows none kept = λ i. filter_map (λ n. option_map (row_by_gone n (same_gone kept n i)) (item_numbered (same_deposits h more none i) n)) (numbers (length (same_deposits h more none i)))

  pub same_file_rows : LeavesDeposits more → ((n : ℕ) → first_said (destroyed_in n) more ≡ None) → file_rows (with_changes h more) ≡ file_rows h
  same_file_rows none kept =
      λ i. flat_map (λ n. map (file_row n) (option_map_or (λ found. found.1.bag) (item_numbered (same_deposits h more none i) n) [])) (filter (λ n. is_none (same_gone kept n i)) (numbers (length (same_deposits h more none i))))

  -- it places and releases no hold
  pub same_released : ((k : ℕ) → first_said (released_in k) more ≡ None) → (k : ℕ) → release_day (with_changes h more) k ≡ release_day h k
  same_released none k = released_grown h more k ∙ ap (option_or (release_day h k)) (none k) ∙ or_none (release_day h k)

  pub same_hold_rows : LeavesHolds more → ((k : ℕ) → first_said (released_in k) more ≡ None) → hold_rows (with_changes h more) ≡ hold_rows h
  same_hold_rows none live = λ i. filter_map (λ k. option_map (row_by_release k (same_released live k i)) (item_numbered (same_holds h more none i) k)) (numbers (length (same_holds h more none i)))

  pub same_live : LeavesHolds more → ((k : ℕ) → first_said (released_in k) more ≡ None) → (n : ℕ) (d : Deposit) → live_holds (with_changes h more) n d ≡ live_holds h n d
  same_live free live n d = λ i. filter (λ k. is_none (same_released live k i) && option_map_or (λ hold. reaches hold.1.target n d) (item_numbered (same_holds h more free i) k) false) (numbers (length (same_holds h more free i)))

  -- it defines no class, and places and releases no hold
  pub same_due_row : ((name : List ℕ) → last_said (years_in name) more ≡ None) → LeavesHolds more → ((k : ℕ) → first_said (released_in k) more ≡ None) → (n : ℕ) (found : Date × Deposit) → due_row (with_changes h more) n found ≡ due_row h n found
  same_due_row silent free live n found = λ i. record { number = pos n; due = due_number (sym (same_due silent found.1) i); holds = pos (length (same_live free live n found.1 i)) }

  -- and takes no deposit
  pub same_due_rows : LeavesDeposits more → ((name : List ℕ) → last_said (years_in name) more ≡ None) → LeavesHolds more → ((k : ℕ) → first_said (released_in k) more ≡ None)
      → due_rows (with_changes h more) ≡ due_rows h
  same_due_rows none silent free live = λ i. filter_map (λ n. option_map (λ found. same_due_row silent free live n found i) (item_numbered (same_deposits h more none i) n)) (numbers (length (same_deposits h more none i)))

  -- the picture of a history that goes on under the same policy, by the tables that are left
  pub pictured_by : {classes : List ClassRow} {collections : List (List ℕ)} {deposits : List DepositRow} {dues : List DueRow} {files : List FileRow} {holds : List HoldRow}
      → last_said installed_in more ≡ None
      → classes ≡ class_rows (with_changes h more)
      → collections ≡ collection_rows (with_changes h more)
      → deposits ≡ deposit_rows (with_changes h more)
      → dues ≡ due_rows (with_changes h more)
      → files ≡ file_rows (with_changes h more)
      → holds ≡ hold_rows (with_changes h more)
      → record (picture this_version h) { classes = classes; collections = collections; deposits = deposits; dues = dues; files = files; holds = holds } ≡ picture this_version (with_changes h more)
  pictured_by none classes_are collections_are deposits_are dues_are files_are holds_are = λ i. record {
    office = office_row this_version h ∷ [];
    callers = map caller_row (sym (same_policy none) i).callers;
    rules = rule_rows 1 (sym (same_policy none) i).rules;
    classes = classes_are i;
    collections = collections_are i;
    deposits = deposits_are i;
    dues = dues_are i;
    files = files_are i;
    holds = holds_are i;
  }
