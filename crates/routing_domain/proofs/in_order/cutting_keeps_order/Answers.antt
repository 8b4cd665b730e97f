use Rattle.routing_domain.proofs.Cuts.{cuts_in_order}
use Rattle.routing_domain.proofs.in_order.cutting_keeps_order.Goals as goal

pub returns : goal.returns
returns c = record { order = λ d u w o from to linked. cuts_in_order d u w o from to linked }
