use Rattle.routing_domain.proofs.Starting.{opened_in_order}
use Rattle.routing_domain.proofs.in_order.opened_domain_is_in_order.Goals as goal

pub returns : goal.returns
returns c = record { order = λ n openings a. opened_in_order n openings a }
