-- What an upgrade leaves, and what a crash may leave of it.
use Rattle.office_upgrade.proofs.Common.{◌≡◌, ℤ, Bool, true, false, Option, None, Some, Ok, Err, Result, IsTrue, refl, sym, ap, subst, ◌∙◌, inl, inr, arith, Database, Trees, Held, state, HasCleanDisk, Survives, survives_then, OnOk, HasVersion, ShowsVersion, version_of, AllRows, BecomesAt, renewed, version_number, IsOfficeOf, IsOlder, IsRenewed, IsUpgrade, IsLeftAt, HasUnknownVersion, TellsVersion, TableVersion, Newest, clean_first, tells_version}
use Rattle.sqlite.specs.Store.{Ghosts}
use Rattle.sqlite.proofs.Callers.{survives_begin}
use Rattle.sql_meaning.specs.Inside.{Stays}
use Rattle.sql_meaning.proofs.Inside.{survives_commit}
use Rattle.office_contents.specs.Faults.{IsFailure}
use Rattle.office_contents.specs.declared.fault.TableFault.{TableFault}
use Rattle.office_contents.specs.declared.fault.TableFault.TheVariants.{NotAnOffice, OtherVersion, Memory, Store}

-- the version that was seen is that of the office
pub same_version : (version : TableVersion) (rows : AllRows) (db : Database) (seen : ℤ) → IsOfficeOf version db rows → ShowsVersion db (Some seen) → seen ≡ version_number version
same_version version rows db seen office shown =
    office.told seen (sym (ap (λ (r : AllRows). version_of r.tables) office.becomes.are) ∙ tells_version version db office.becomes.office.whole (Some seen) shown)

pub is_renewed : (seen : ℤ) (old mid new : Database) → ShowsVersion old (Some seen) → mid ≡ old
    → ((known : TableVersion) (rows : AllRows) → seen ≡ version_number known → BecomesAt known mid rows → BecomesAt Newest new (renewed known rows)) → IsRenewed old new
is_renewed seen old mid new shown same made version rows office =
    made version rows (same_version version rows old seen office shown) (subst (λ d. BecomesAt version d rows) (sym same) office.becomes)

-- the version that was seen, as it is known after what came then
pub seen_first : {S : Type 0} (g : Ghosts S) (mid new : Held S) (db : Database) (told : Option ℤ) (seen : ℤ) → (HasCleanDisk (state g mid) → ShowsVersion db told) → told ≡ Some seen
    → Stays (state g mid) (state g new) → HasCleanDisk (state g new) → ShowsVersion db (Some seen)
seen_first g mid new db told seen shown is stays clean = subst (ShowsVersion db) is (shown (clean_first stays clean))

-- what was done inside the transaction, as the caller sees it from before it began
pub record IsTaken {S : Type 0} (g : Ghosts S) (first last : Held S) (taken : Result Bool TableFault) : Type 0 where
  pub stays : Stays (state g (record first { in_transaction = true })) (state g last)
  pub renewed : HasCleanDisk (state g last) → OnOk taken (IsRenewed (state g first).now (state g last).now)
  pub same : HasCleanDisk (state g last) → taken ≡ Ok false → (state g last).now ≡ (state g first).now
  pub older : HasCleanDisk (state g last) → taken ≡ Ok true → IsOlder (state g first).now
  pub newest : HasCleanDisk (state g last) → taken ≡ Ok false → HasVersion (state g first).now (version_number Newest)
  pub not_office : HasCleanDisk (state g last) → taken ≡ Err NotAnOffice → ShowsVersion (state g first).now None
  pub other_version : HasCleanDisk (state g last) → taken ≡ Err OtherVersion → HasUnknownVersion (state g first).now

-- from what is said of the connection that the transaction began with
pub taken_from : {S : Type 0} (g : Ghosts S) (first start last : Held S) (taken : Result Bool TableFault) → start ≡ record first { in_transaction = true } → Stays (state g start) (state g last)
    → (HasCleanDisk (state g last) → OnOk taken (IsRenewed (state g start).now (state g last).now))
    → (HasCleanDisk (state g last) → taken ≡ Ok false → (state g last).now ≡ (state g start).now)
    → (HasCleanDisk (state g last) → taken ≡ Ok true → IsOlder (state g start).now)
    → (HasCleanDisk (state g last) → taken ≡ Ok false → HasVersion (state g start).now (version_number Newest))
    → (HasCleanDisk (state g last) → taken ≡ Err NotAnOffice → ShowsVersion (state g start).now None)
    → (HasCleanDisk (state g last) → taken ≡ Err OtherVersion → HasUnknownVersion (state g start).now)
    → IsTaken g first last taken
taken_from g first start last taken begun stays renewed same older newest not_office other_version = record {
  stays = rw begun at stays;
  renewed = rw begun at renewed;
  same = rw begun at same;
  older = rw begun at older;
  newest = rw begun at newest;
  not_office = rw begun at not_office;
  other_version = rw begun at other_version;
}

-- a disk that is clean at the end was clean before it
pub clean_before : {S : Type 0} (g : Ghosts S) (last end x : Held S) (P : Trees → Type 0) → Survives (state g last) (state g end) P → end ≡ x → HasCleanDisk (state g x) → HasCleanDisk (state g last)
clean_before g last end x P s same clean =
    let late : HasCleanDisk (state g end) = rw same clean in
    omega (arith, late, s.clean)

-- a crash leaves whatever office of a known version was there renewed
abbrev pub Lasts : {S : Type 0} → Ghosts S → Held S → Held S → Type 0
Lasts g first end = HasCleanDisk (state g end) → (version : TableVersion) (rows : AllRows) → IsOfficeOf version (state g first).now rows → (state g first).committed ≡ (state g first).now
    → IsTrue (state g first).is_open → (left : Trees) → (state g end).may_leave left → IsLeftAt Newest (renewed version rows) left

module _ {S : Type 0} (g : Ghosts S) (first last end : Held S) (taken : Result Bool TableFault) (it : IsTaken g first last taken) where
  made_by : (done : Bool) → taken ≡ Ok done → HasCleanDisk (state g last) → IsRenewed (state g first).now (state g last).now
  made_by done is clean = subst (λ r. OnOk r (IsRenewed (state g first).now (state g last).now)) is (it.renewed clean)

  -- the commit, whether it was answered or not
  pub commits : (x : Held S) → end ≡ x → taken ≡ Ok true → Survives (state g last) (state g end) (λ db. db ≡ (state g last).now.trees) → Survives (state g first) (state g x) (IsUpgrade (state g first).now)
  commits x same is s = subst (λ (y : Held S). Survives (state g first) (state g y) (IsUpgrade (state g first).now)) same
      (survives_commit g first (state g last) (state g end) it.stays (IsUpgrade (state g first).now) (λ clean db is_left. record {
        was_older = it.older clean is;
        leaves = λ version rows office. ((state g last).now, made_by true is clean version rows office, is_left);
      }) s)

  -- after it a crash leaves the new tables alone
  pub lasts : (done : Bool) → taken ≡ Ok done → HasCleanDisk (state g last) → IsTrue (state g end).is_open → (state g end).now ≡ (state g last).now → (state g end).committed ≡ (state g end).now
      → ((db : Trees) → IsTrue (state g end).is_open → (state g end).may_leave db → db ≡ (state g end).committed.trees)
      → (version : TableVersion) (rows : AllRows) → IsOfficeOf version (state g first).now rows → (left : Trees) → (state g end).may_leave left → IsLeftAt Newest (renewed version rows) left
  lasts done is clean was_opened now committed settled version rows office left may =
      ((state g last).now, made_by done is clean version rows office, settled left was_opened may ∙ ap (λ (d : Database). d.trees) (committed ∙ now))

  -- nothing of it is left where it is rolled back
  pub survives_back : Survives (state g last) (state g end) (λ _. ⊥) → Survives (state g first) (state g end) (λ _. ⊥)
  survives_back s =
      survives_begin g first (state g end) (λ _. ⊥) (survives_then (state g (record first { in_transaction = true })) (state g last) (state g end) _ _ (λ _. ⊥) (λ _ db none. none) (λ _ db none. none) it.stays.survives s)

  -- where the tables were the newest, a crash leaves what was committed
  pub lasts_back : taken ≡ Ok false → Survives (state g last) (state g end) (λ _. ⊥) → HasCleanDisk (state g last) → HasCleanDisk (state g end)
      → ((db : Trees) → IsTrue (state g first).is_open → (state g first).may_leave db → db ≡ (state g first).committed.trees)
      → (version : TableVersion) (rows : AllRows) → IsOfficeOf version (state g first).now rows → (state g first).committed ≡ (state g first).now → IsTrue (state g first).is_open
      → (left : Trees) → (state g end).may_leave left → IsLeftAt Newest (renewed version rows) left
  lasts_back is s early clean settled version rows office committed is_open left may =
      elim ((survives_back s).crash clean left may) [
        | inl before ↦ ((state g last).now, made_by false is early version rows office, settled left is_open before ∙ ap (λ (d : Database). d.trees) (committed ∙ sym (it.same early is)))
        | inr none ↦ absurd none
      ]

-- of an office of a known version nothing but a failure is said
pub fails_only : (stopped : TableFault) (db : Database) → (stopped ≡ NotAnOffice → ShowsVersion db None) → (stopped ≡ OtherVersion → HasUnknownVersion db)
    → (version : TableVersion) (rows : AllRows) → BecomesAt version db rows → TellsVersion version rows → IsFailure stopped
fails_only NotAnOffice db none other version rows becomes told =
    absurd (let none_told : None ≡ Some (version_number version) = sym (tells_version version db becomes.office.whole None (none refl)) ∙ ap (λ (r : AllRows). version_of r.tables) becomes.are ∙ told in cc)
fails_only OtherVersion db none other version rows becomes told =
    let it = other refl in
    absurd (it.1 version (let same : Some it.0 ≡ Some (version_number version) = sym (tells_version version db becomes.office.whole (Some it.0) it.2) ∙ ap (λ (r : AllRows). version_of r.tables) becomes.are ∙ told in cc))
fails_only Memory db none other version rows becomes told = tt
fails_only Store db none other version rows becomes told = tt
