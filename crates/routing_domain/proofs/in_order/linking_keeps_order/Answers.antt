use Rattle.routing_domain.proofs.Links.{links_in_order}
use Rattle.routing_domain.proofs.in_order.linking_keeps_order.Goals as goal

pub returns : goal.returns
returns c = record { order = λ d u w o c. links_in_order d u w o c }
