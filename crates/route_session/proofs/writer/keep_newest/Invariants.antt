use Rattle.std.proofs.Common.{◌-◌, vec_len}
use Rattle.route_session.proofs.Leaving.{IsKeeping}
use Rattle.route_session.proofs.writer.keep_newest.Given as goal

abbrev pub invariant-loop-at : goal.invariant-loop-at
invariant-loop-at l = IsKeeping l.fn.messages.items l.kept.items l.at l.left_out

abbrev pub decreases-loop-at : goal.decreases-loop-at
decreases-loop-at l = vec_len l.kept - l.at
