use Rattle.std.proofs.Common.{arith}
use Rattle.route_history.proofs.Windows.{forgotten_window}
use Rattle.lock_rule.specs.Views.{held_history}
use Rattle.lock_rule.proofs.Seats.{has_forgotten, releasing_seen_seated, window_before}
use Rattle.lock_rule.proofs.steps.forget.Goals as goal

pub store-requires : goal.store-requires
store-requires c =
    let words = c.requires.table.words in
    let m = c.args.seat.now.me in
    let h = c.requires.holding in
    let old = c.slot_mut-lent.result.now in
    let new = c.forget-first.new.self in
    let before = c.slot_mut-lent.ensures.value in (
      c.requires.table.same,
      omega arith,
      releasing_seen_seated m h old new before
          c.args.table.now.shared.key.value.tables.opening c.args.table.now.shared.key.value.bounds c.args.table.now.shared.table_id.slots
          c.args.seat.now.id
          (forgotten_window h.opening h.bounds (held_history m.0) old new (window_before m h old new before) c.args.upto c.forget-first.ensures.forgotten)
          c.forget-first.ensures.forgotten.on (λ more. c.requires.right),
    )

pub returns-clause-forgot : goal.returns-clause-forgot
returns-clause-forgot c =
    has_forgotten c.args.seat.now.me c.requires.holding c.slot_mut-lent.result.now c.forget-first.new.self c.slot_mut-lent.ensures.value
    c.args.upto c.forget-first.result c.store.new.seat.me c.requires.right c.forget-first.ensures.forgotten c.forget-first.ensures.first c.store.ensures.2
