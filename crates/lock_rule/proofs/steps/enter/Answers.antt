use Rattle.std.proofs.Common.{ap, arith, subst, sym}
use Rattle.route_history.specs.Long.{IsWindow, LongView}
use Rattle.lock_rule.specs.Views.{held_history}
use Rattle.lock_rule.proofs.Seats.{has_entered, is_full, releasing_entered_seated, releasing_seated, releasing_seen_seated, window_before}
use Rattle.lock_rule.proofs.steps.enter.Goals as goal

pub store-requires : goal.store-requires
store-requires c =
    let words = c.requires.table.words in
    let m = c.args.seat.now.me in
    let h = c.requires.holding in (
      c.requires.table.same,
      omega arith,
      releasing_entered_seated m h c.slot_mut-journal.result.now c.apply.new.self c.slot_mut-journal.ensures.value
          c.args.table.now.shared.key.value.tables.opening c.args.table.now.shared.key.value.bounds c.args.table.now.shared.table_id.slots
          c.args.seat.now.id c.args.event c.in-Ok.at c.in-Ok.reply c.in-Ok.ensures.entered,
    )

pub store-requires-in-Err-Full : goal.store-requires-in-Err-Full
store-requires-in-Err-Full c =
    let words = c.requires.table.words in
    let m = c.args.seat.now.me in
    let h = c.requires.holding in
    let old = c.slot_mut-journal.result.now in
    let new = c.apply.new.self in
    let before = c.slot_mut-journal.ensures.value in
    let refused = rw c.in-Err-Full.field-0-is at c.in-Err-Full.ensures.refused in (
      c.requires.table.same,
      omega arith,
      releasing_seen_seated m h old new before
          c.args.table.now.shared.key.value.tables.opening c.args.table.now.shared.key.value.bounds c.args.table.now.shared.table_id.slots
          c.args.seat.now.id
          (subst (λ (j : LongView). IsWindow h.opening h.bounds (held_history m.0) j) (sym refused.0) (window_before m h old new before))
          (let same = ap (λ (j : LongView). j.first) refused.0 in omega arith)
          (λ more. absurd (let same = ap (λ (j : LongView). j.first) refused.0 in omega arith)),
    )

pub store-requires-in-Err-Memory : goal.store-requires-in-Err-Memory
store-requires-in-Err-Memory c =
    let words = c.requires.table.words in
    let m = c.args.seat.now.me in
    let h = c.requires.holding in
    let old = c.slot_mut-journal.result.now in
    let new = c.apply.new.self in
    let before = c.slot_mut-journal.ensures.value in
    let refused = rw c.in-Err-Memory.field-0-is at c.in-Err-Memory.ensures.refused in (
      c.requires.table.same,
      omega arith,
      releasing_seated m h old new before
          c.args.table.now.shared.key.value.tables.opening c.args.table.now.shared.key.value.bounds c.args.table.now.shared.table_id.slots
          c.args.seat.now.id
          (subst (λ (j : LongView). IsWindow h.opening h.bounds (held_history m.0) j) (sym refused.0) (window_before m h old new before))
          (ap (λ (j : LongView). j.first) refused.0),
    )

pub returns-in-Ok-clause-entered : goal.returns-in-Ok-clause-entered
returns-in-Ok-clause-entered c =
    has_entered c.args.seat.now.me c.requires.holding c.slot_mut-journal.result.now c.apply.new.self c.slot_mut-journal.ensures.value
    c.args.event c.in-Ok.at c.in-Ok.reply c.store.new.seat.me c.in-Ok.ensures.entered c.store.ensures.2

pub returns-in-Err-Full-clause-refused : goal.returns-in-Err-Full-clause-refused
returns-in-Err-Full-clause-refused c =
    let refused = rw c.in-Err-Full.field-0-is at c.in-Err-Full.ensures.refused in
    is_full c.args.seat.now.me c.requires.holding c.slot_mut-journal.result.now c.apply.new.self c.slot_mut-journal.ensures.value
    c.store-in-Err-Full.new.seat.me refused.0 refused.1 c.store-in-Err-Full.ensures.2
