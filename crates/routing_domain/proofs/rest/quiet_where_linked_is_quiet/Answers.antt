use Rattle.routing_domain.proofs.Occurring.{quiet_links}
use Rattle.routing_domain.proofs.rest.quiet_where_linked_is_quiet.Goals as goal

pub returns : goal.returns
returns c = record { quiet = λ d o queues flights. quiet_links d o queues flights }
