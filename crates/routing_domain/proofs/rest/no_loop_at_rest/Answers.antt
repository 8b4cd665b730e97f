use Rattle.routing_domain.proofs.Alone.{leads_nearer}
use Rattle.routing_domain.proofs.rest.no_loop_at_rest.Goals as goal

pub returns : goal.returns
returns c = record { nearer = λ m n to a r u w short l. leads_nearer m to a n r u w short l }
