use Rattle.std.proofs.Common.{vec_len}
use Rattle.route_session.proofs.Writing.{IsSending}
use Rattle.route_session.proofs.writer.send_each.Given as goal

abbrev pub invariant-loop-message : goal.invariant-loop-message
invariant-loop-message g l = IsSending (g.L.Link.trace l.fn.link) l.fn.messages.items l.unsent.items (g.L.Link.trace l.link)

abbrev pub decreases-loop-message : goal.decreases-loop-message
decreases-loop-message g l = vec_len l.unsent
