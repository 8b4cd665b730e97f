use Rattle.routing_domain.proofs.Same.{same_in_order}
use Rattle.routing_domain.proofs.in_order.same_domain_is_in_order.Goals as goal

pub returns : goal.returns
returns c = record { order = λ d e s o. same_in_order d e s o }
