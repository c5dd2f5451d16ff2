use Rattle.http_desk.proofs.Lemmas.{◌≡◌, ◌≢◌, ◌⊎◌, ◌++◌, [], length, refl, sym, ap, ◌∙◌, subst, arith, length-append, Ok, common_steps, nil_from_length, Appends-nil, Consumes-nil, device_of, record_text, WantsMore, CanNotBegin, max_records, wanted_short, rest_shorter, ReadsMore, started, read_on, answered_on, ended, bad_at_end, bad_stop, stopped_by, unremembered, unread, unwritten_stop}
use Rattle.http_desk.proofs.replaying.replay.Goals as goal

pub records-init : goal.records-init
records-init g c = record {
  progress = started g.S.Store _ _ _ c.new-pending.result.items c.new-pending.ensures.items;
  short = let l : length c.new-pending.result.items ≡ 0 = ap length c.new-pending.ensures.items in omega arith;
  reader_calm = refl;
  writer_calm = refl;
}

pub returns-in_default-clause-replayed : goal.returns-in_default-clause-replayed
returns-in_default-clause-replayed g c = stopped_by g.S.Store _ _ _ _ _ _ c.between.result _ c.between.ensures (unremembered g.S.Store _ _ _ _ _ _ _ _ [] [] 0 (started g.S.Store _ _ _ [] refl) (Consumes-nil _) (Appends-nil _))

pub returns-in_default-from_slice-clause-replayed : goal.returns-in_default-from_slice-clause-replayed
returns-in_default-from_slice-clause-replayed g c =
    stopped_by g.S.Store _ _ _ _ _ _ c.between-in_default-from_slice.result _ c.between-in_default-from_slice.ensures (unremembered g.S.Store _ _ _ _ _ _ _ _ c.records.pending.items [] c.records.count c.records.invariant.progress (Consumes-nil _) (Appends-nil _))

pub returns-in-Err-clause-replayed : goal.returns-in-Err-clause-replayed
returns-in-Err-clause-replayed g c =
    stopped_by g.S.Store _ _ _ _ _ _ c.after.result _ c.after.ensures (unwritten_stop g.S.Store _ _ _ _ _ _ _ _ c.records.pending.items c.in-Whole.rest.now c.records.count (record { day = c.in-Whole.day; bytes = c.in-Whole.bytes.now }) c.in-Err.unwritten (Unit {0})
    c.records.invariant.progress c.in-Whole.ensures.0 (sym c.deref.ensures.value ∙ c.in-Whole.ensures.1) c.in-Whole.ensures.2 c.in-Err.ensures.answered)

pub records-preserved-in-Whole : goal.records-preserved-in-Whole
records-preserved-in-Whole g c =
    let text = sym c.deref.ensures.value ∙ c.in-Whole.ensures.1 ∙ ap (λ l. record_text c.in-Whole.day c.in-Whole.bytes.now ++ l) (sym c.in-Ok-from_slice.ensures.items) in
    let a = c.in-Ok-answer_next.ensures.answered in
    record {
      progress = answered_on g.S.Store _ _ _ _ _ _ _ _ c.records.pending.items c.in-Ok-from_slice.following.items c.records.count (record { day = c.in-Whole.day; bytes = c.in-Whole.bytes.now }) a.0
          c.records.invariant.progress c.in-Whole.ensures.0 text c.in-Whole.ensures.2 a.1 a.2;
      short = let less = rest_shorter c.records.pending.items c.in-Whole.day c.in-Whole.bytes.now c.in-Ok-from_slice.following.items text in let fits = c.records.invariant.short in omega arith;
      reader_calm = c.records.invariant.reader_calm;
      writer_calm = c.in-Ok-answer_next.ensures.calm (λ e. cc) ∙ c.records.invariant.writer_calm;
    }

pub records-preserved : goal.records-preserved
records-preserved g c =
    let m = subst (λ v. ReadsMore (g.R.Read.remaining (device_of c.records.reader)) (g.R.Read.remaining (device_of c.read_more.new.reader)) c.records.pending.items c.read_more.new.pending.items (Ok v)) c.in-Ok-true.field-0-test c.in-Ok-true.ensures.more in
    let wants = subst (λ l. WantsMore l) c.deref.ensures.value c.in-More.ensures in
    record {
      progress = read_on g.S.Store _ _ _ _ _ _ _ c.records.pending.items m.0 c.read_more.new.pending.items c.records.count c.records.invariant.progress m.1 m.2;
      short =
          let low = wanted_short c.records.pending.items wants in
          let all : length c.read_more.new.pending.items ≡ _ = ap length m.2 ∙ length-append c.records.pending.items m.0 in
          let few = m.4 in
          omega arith;
      reader_calm = c.in-Ok-true.ensures.calm (λ e. cc) ∙ c.records.invariant.reader_calm;
      writer_calm = c.records.invariant.writer_calm;
    }

pub returns-in-Ok-false-clause-replayed : goal.returns-in-Ok-false-clause-replayed
returns-in-Ok-false-clause-replayed g c =
    let m = subst (λ v. ReadsMore (g.R.Read.remaining (device_of c.records.reader)) (g.R.Read.remaining (device_of c.read_more.new.reader)) c.records.pending.items c.read_more.new.pending.items (Ok v)) c.in-Ok-false.field-0-test c.in-Ok-false.ensures.more in
    let wants = subst (λ l. WantsMore l) c.deref.ensures.value c.in-More.ensures in
    let none = nil_from_length c.records.pending.items (let e : length c.read_more.new.pending.items ≡ length c.records.pending.items = ap length m.2 in let z : length c.read_more.new.pending.items ≡ 0 = grind (arith, common_steps) in omega arith) in
    ended g.S.Store _ _ _ _ _ _ _ c.records.pending.items c.records.count c.records.invariant.progress wants none m.0 m.1

pub returns-in-Ok-false-2-clause-replayed : goal.returns-in-Ok-false-2-clause-replayed
returns-in-Ok-false-2-clause-replayed g c =
    let m = subst (λ v. ReadsMore (g.R.Read.remaining (device_of c.records.reader)) (g.R.Read.remaining (device_of c.read_more.new.reader)) c.records.pending.items c.read_more.new.pending.items (Ok v)) c.in-Ok-false.field-0-test c.in-Ok-false.ensures.more in
    let wants = subst (λ l. WantsMore l) c.deref.ensures.value c.in-More.ensures in
    let some : c.records.pending.items ≢ [] = λ none. (let z : length c.read_more.new.pending.items ≡ 0 = ap length (m.2 ∙ none) in absurd (grind (arith, common_steps))) in
    stopped_by g.S.Store _ _ _ _ _ _ c.bad_record.result _ c.bad_record.ensures (bad_at_end g.S.Store _ _ _ _ _ _ _ c.records.pending.items c.records.count c.records.invariant.progress wants some m.0 m.1)

pub returns-in-Err-read_more-clause-replayed : goal.returns-in-Err-read_more-clause-replayed
returns-in-Err-read_more-clause-replayed g c =
    let wants = subst (λ l. WantsMore l) c.deref.ensures.value c.in-More.ensures in
    stopped_by g.S.Store _ _ _ _ _ _ c.between-in-Err-read_more.result _ c.between-in-Err-read_more.ensures (unread g.S.Store _ _ _ _ _ _ _ c.records.pending.items c.read_more.new.pending.items c.records.count c.in-Err-read_more.stop c.records.invariant.progress wants c.in-Err-read_more.ensures.more)

pub returns-in-Bad-clause-replayed : goal.returns-in-Bad-clause-replayed
returns-in-Bad-clause-replayed g c =
    let bad = subst (λ l. (l ≢ []) × (CanNotBegin l ⊎ (c.records.count ≡ max_records))) c.deref.ensures.value c.in-Bad.ensures in
    stopped_by g.S.Store _ _ _ _ _ _ c.bad_record-in-Bad.result _ c.bad_record-in-Bad.ensures (bad_stop g.S.Store _ _ _ _ _ _ c.records.pending.items c.records.count c.records.invariant.progress bad)
