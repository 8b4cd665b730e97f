use Rattle.routing_domain.proofs.Whole.{in_order}
use Rattle.routing_domain.proofs.networks.whole_networks_are_in_order.Goals as goal

pub returns : goal.returns
returns c = record { order = λ n o w. in_order n o w }
