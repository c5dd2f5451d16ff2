-- The rows of files, and the bags of the history that they picture.
use Rattle.office_refines.proofs.FirstLemmas.{◌≡◌, ℕ, Bool, true, false, List, [], ◌∷◌, ◌++◌, map, filter, refl, cond, pos, Some, None, option_map, sym, ap, ◌∙◌, true≢false, if◌then◌else◌, flat_map, AllByRecursion, filter-append, option_map_or, nat_cmp, int_eq, is_gt, is_lt, bytes_eq-Decides, Date, File, Ascends, content_at, Fits, is_good, sort_by, insert_sorted, FileRow, is_file_of, History, Deposit, destruction_day, files_of, file_row, file_rows, path_cmp, Less, bytes_eq, find, deposit_numbered, false_from_ne_true, by_Bool, own, files_told, filter_map, Decides-int_eq}
use Rattle.std.specs.declared.cmp.Ordering.{Ordering}
use Rattle.std.specs.declared.cmp.Ordering.TheVariants.{Equal, Greater}
use Rattle.std.specs.Cmp.Lexicographic.{slice_cmp}

-- ---- those of one deposit after those of another

-- the rows of the files of a deposit
abbrev pub file_rows_at : History → ℕ → List FileRow
file_rows_at h n = map (file_row n) (files_of h n)

-- what a filter keeps of what is gathered of a list, whose first item may be left out
pub filter_gathered : {X A : Type 0} (keeps : A → Bool) (f : X → List A) (b : Bool) (x : X) (xs : List X)
    → filter keeps (flat_map f (cond b (x ∷ xs) xs)) ≡ cond b (filter keeps (f x)) [] ++ filter keeps (flat_map f xs)
filter_gathered keeps f true x xs = filter-append keeps (f x) (flat_map f xs)
filter_gathered keeps f false x xs = refl

-- ---- which rows are a deposit's

own_rows : (n : ℕ) (rows : List FileRow) → filter (is_file_of (pos n)) rows ≡ map (file_row n) (filter_map (own n) rows)
own_rows n [] = refl
own_rows n (r ∷ rows) =
    by_Bool (int_eq r.deposit (pos n))
    (λ mine. rw mine (λ i. record { deposit = (Decides-int_eq r.deposit (pos n)).0 mine i; path = r.path; content = r.content } ∷ own_rows n rows i))
    (λ other. rw other (own_rows n rows))

-- the rows of a kept deposit are those of its bag
pub files_at : (h : History) (n : ℕ) (found : Date × Deposit) → deposit_numbered h n ≡ Some found → destruction_day h n ≡ None → filter (is_file_of (pos n)) (file_rows h) ≡ map (file_row n) found.1.bag
files_at h n found e kept =
    own_rows n (file_rows h) ∙ ap (map (file_row n)) (files_told h n found e kept) ∙ ap (λ o. map (file_row n) (option_map_or (λ (f : Date × Deposit). f.1.bag) o [])) e

-- ---- their order

not_above : (o : Ordering) → is_lt o ≡ true → is_gt o ≡ false
not_above Less e = refl
not_above Equal e = absurd (true≢false (sym e))
not_above Greater e = absurd (true≢false (sym e))

first_stays : (n : ℕ) (f : File) (files : List File) → Ascends f.path files → insert_sorted path_cmp (file_row n f) (map (file_row n) files) ≡ file_row n f ∷ map (file_row n) files
first_stays n f [] up = refl
first_stays n f (g ∷ files) up =
    ap (λ b. if b then file_row n g ∷ insert_sorted path_cmp (file_row n f) (map (file_row n) files) else file_row n f ∷ file_row n g ∷ map (file_row n) files) (not_above (slice_cmp nat_cmp f.path g.path) up.0)

pub in_path_order : (n : ℕ) (before : List ℕ) (files : List File) → Ascends before files → sort_by path_cmp (map (file_row n) files) ≡ map (file_row n) files
in_path_order n before [] up = refl
in_path_order n before (f ∷ files) up = ap (insert_sorted path_cmp (file_row n f)) (in_path_order n f.path files up.1) ∙ first_stays n f files up.1

-- ---- bytes that are no path of a bag

another : (path other : List ℕ) → is_good path ≡ true → is_good other ≡ false → bytes_eq path other ≡ false
another path other good bad = false_from_ne_true (bytes_eq path other) (λ e. true≢false (sym good ∙ ap is_good ((bytes_eq-Decides path other).0 e) ∙ bad))

-- no file of a bag has such a path
pub no_file_there : (files : List File) → AllByRecursion Fits files → (path : List ℕ) → is_good path ≡ false → None ≡ content_at files path
no_file_there [] each path bad = refl
no_file_there (f ∷ files) each path bad =
    no_file_there files each.1 path bad ∙ ap (λ b. option_map (λ (g : File). g.content) (cond b (Some f) (find (λ g. bytes_eq g.path path) files))) (sym (another f.path path each.0.good bad))
