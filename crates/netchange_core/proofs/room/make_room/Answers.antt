use Rattle.std.proofs.Common.{◌+◌, ◌<◌, ◌≤◌, length, sym, ◌∙◌, arith, deque_capacity, deque_len}
use Rattle.netchange_core.specs.Present.{present}
use Rattle.netchange_core.proofs.Listed.{named_below, named_set, room_named}
use Rattle.netchange_core.proofs.Views.{same_views}
use Rattle.netchange_core.proofs.room.make_room.Goals as goal

pub returns-in_err-reserve-clause-same : goal.returns-in_err-reserve-clause-same
returns-in_err-reserve-clause-same c =
    same_views c.loop-session.neighbours c.from.result c.reserve.new.neighbour c.index-neighbours-from.result c.reserve.ensures.same
    ∙ c.loop-session.invariant.same

pub loop-session-preserved : goal.loop-session-preserved
loop-session-preserved c =
    let i = c.loop-session.session-index in
    let below = named_below c.args.neighbours.now c.args.present.now i (present 0 0) c.requires.listed c.loop-session-test.true in
    let short : c.from.result < length c.loop-session.neighbours = omega (arith, below, c.from.ensures) in
    record {
      same = same_views c.loop-session.neighbours c.from.result c.reserve.new.neighbour c.index-neighbours-from.result
          c.reserve.ensures.same
          ∙ c.loop-session.invariant.same;
      room = named_set (λ n. deque_len n.queue + c.args.more ≤ deque_capacity n.queue) c.args.present.now i (present 0 0)
          c.loop-session.neighbours c.from.result c.reserve.new.neighbour short c.loop-session-test.true (sym c.from.ensures)
          c.in_ok-reserve.ensures.room c.loop-session.invariant.room;
    }

pub returns-clause-room : goal.returns-clause-room
returns-clause-room c =
    room_named c.args.more c.args.present.now c.args.neighbours.now c.loop-session.neighbours c.requires.listed
    c.loop-session.invariant.same (λ j p e h. c.loop-session.invariant.room j p e (omega arith))
