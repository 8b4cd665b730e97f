use Rattle.std.proofs.Common.{◌≡◌, ◌<◌, ap, length, get_or, sym, subst, ◌∙◌, arith}
use Rattle.netchange_core.specs.Kept.{FitsSize, filter_of}
use Rattle.netchange_core.specs.Present.{present}
use Rattle.netchange_core.proofs.Listed.{Told, all_told, named_below, next_room, next_same, room_told, told_one}
use Rattle.netchange_core.proofs.Views.{good_at}
use Rattle.netchange_core.proofs.telling.tell_all.Goals as goal

pub queue_message-requires-clause-exports : goal.queue_message-requires-clause-exports
queue_message-requires-clause-exports c =
    let size = c.args.opening.now.size in
    let old = c.args.neighbours.now in
    let ps = c.args.present.now in
    let i = c.loop-session.session-index in
    let k = (get_or ps i (present 0 0)).node in
    let head = c.index-neighbours-from.result in
    let below : k < length old = named_below old ps i (present 0 0) c.requires.listed c.loop-session-test.true in
    let same = next_same c.args.opening.now c.args.node c.args.dist ps old c.loop-session.neighbours c.loop-session.auto.neighbours
    c.requires.listed i (present 0 0) head c.loop-session-test.true c.loop-session.invariant in
    subst (λ n. FitsSize size (filter_of n.exports))
    (sym (ap (λ j. get_or c.loop-session.neighbours j head) c.from.ensures ∙ same))
    (good_at size old k head c.requires.neighbours below).exports

pub queue_message-requires-clause-room : goal.queue_message-requires-clause-room
queue_message-requires-clause-room c =
    rw c.from.ensures
    (next_room c.args.opening.now c.args.node c.args.dist c.args.present.now c.args.neighbours.now c.loop-session.neighbours
    c.loop-session.auto.neighbours c.requires.listed c.requires.room c.loop-session.session-index (present 0 0)
    c.index-neighbours-from.result c.loop-session-test.true c.loop-session.invariant)

pub loop-session-preserved : goal.loop-session-preserved
loop-session-preserved c =
    let view = rw c.from.ensures at c.queue_message.ensures.view in
    let long = rw c.from.ensures at c.queue_message.ensures.len in
    let wide = rw c.from.ensures at c.queue_message.ensures.capacity in
    rw c.from.ensures
    (told_one c.args.opening.now c.args.node c.args.dist c.args.present.now c.args.neighbours.now c.loop-session.neighbours
    c.loop-session.auto.neighbours c.requires.listed c.loop-session.session-index (present 0 0) c.index-neighbours-from.result
    c.queue_message.new.neighbour c.loop-session-test.true c.loop-session.invariant view long wide)

pub returns-clause-told : goal.returns-clause-told
returns-clause-told c =
    let o = c.args.opening.now in
    let ps = c.args.present.now in
    let old = c.args.neighbours.now in
    let ns = c.loop-session.neighbours in
    let whole : c.loop-session.session-index ≡ length ps = omega arith in
    all_told o c.args.node c.args.dist ps old ns c.loop-session.auto.neighbours c.requires.listed
    (subst (λ i. Told o c.args.node c.args.dist ps i old ns) whole c.loop-session.invariant)

pub returns-clause-room : goal.returns-clause-room
returns-clause-room c =
    let o = c.args.opening.now in
    let ps = c.args.present.now in
    let old = c.args.neighbours.now in
    let ns = c.loop-session.neighbours in
    let whole : c.loop-session.session-index ≡ length ps = omega arith in
    room_told o c.args.node c.args.dist ps old ns c.loop-session.auto.neighbours c.requires.listed
    (subst (λ i. Told o c.args.node c.args.dist ps i old ns) whole c.loop-session.invariant)
