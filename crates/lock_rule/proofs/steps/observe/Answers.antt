use Rattle.std.proofs.Common.{◌≤◌, arith, refl}
use Rattle.lock_rule.proofs.Seats.{has_observed, releasing_seen_seated, window_before}
use Rattle.lock_rule.proofs.steps.observe.Goals as goal

pub store-requires : goal.store-requires
store-requires g c =
    let words = c.requires.table.words in
    let m = c.args.seat.now.me in
    let shown = c.slot_mut-shown.result.now in
    let before = c.slot_mut-shown.ensures.value in (
      c.requires.table.same,
      omega arith,
      releasing_seen_seated m c.requires.holding shown shown before
          c.args.table.now.shared.key.value.tables.opening c.args.table.now.shared.key.value.bounds c.args.table.now.shared.table_id.slots
          c.args.seat.now.id (window_before m c.requires.holding shown shown before) (let same : shown.first ≤ shown.first = omega arith in same)
          (λ more. absurd (omega arith)),
    )

pub returns-clause-observed : goal.returns-clause-observed
returns-clause-observed g c =
    let shown = c.slot_mut-shown.result.now in
    has_observed c.args.seat.now.me c.requires.holding shown shown c.slot_mut-shown.ensures.value g.O.Observer.sees
    c.args.observer.now c.see.new.self c.store.new.seat.me c.see.ensures refl c.store.ensures.2
