use Rattle.router_daemon.proofs.EmptyQueues.{never_overlooked}
use Rattle.router_daemon.proofs.laws.no_queue_is_overlooked.Goals as goal

pub returns : goal.returns
returns c = never_overlooked
