use Rattle.std.proofs.Common.{◌<◌, length, arith}
use Rattle.route_history.proofs.Replayed.{goes_on}
use Rattle.route_history.proofs.replays.replay_list.Goals as goal

pub loop-k-preserved : goal.loop-k-preserved
loop-k-preserved c =
    let here : c.loop-k.k < length c.args.entries.now = omega arith in
    let same = c.is_same.ensures.0 c.if-not-is_same.false in
    let on = goes_on c.args.opening.now c.args.entries.now c.loop-k.k c.loop-k.tables c.apply.new.self c.index-entries-k.result c.in-Ok-apply.reply
    here c.index-entries-k.is c.loop-k.invariant.replayed c.loop-k.invariant.legal c.in-Ok-apply.ensures.done same in
    record { legal = on.0; replayed = on.1 }
