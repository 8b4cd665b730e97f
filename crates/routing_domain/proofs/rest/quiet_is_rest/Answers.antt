use Rattle.routing_domain.proofs.Quiet.{quiet_goes, quiet_rests}
use Rattle.routing_domain.proofs.rest.quiet_is_rest.Goals as goal

pub returns : goal.returns
returns c = record { rest = λ d o q v there. quiet_rests d o q v there; vias = λ d o q v there u short. quiet_goes d o q v there u short }
