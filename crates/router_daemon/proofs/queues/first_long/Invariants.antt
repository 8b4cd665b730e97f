use Rattle.router_daemon.specs.Queues.{NoneLong}
use Rattle.router_daemon.proofs.queues.first_long.Given as goal

-- no link so far has a queue that is too long
abbrev pub invariant-loop-link : goal.invariant-loop-link
invariant-loop-link l = NoneLong l.most l.tables l.nodes l.from l.link
