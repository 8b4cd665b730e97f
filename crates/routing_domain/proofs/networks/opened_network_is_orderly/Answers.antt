use Rattle.routing_domain.proofs.Restarting.{opened_orderly}
use Rattle.routing_domain.proofs.networks.opened_network_is_orderly.Goals as goal

pub returns : goal.returns
returns c = record { orderly = λ n openings a. opened_orderly n openings a }
