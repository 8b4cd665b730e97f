use Rattle.routing_domain.proofs.Alone.{alone}
use Rattle.routing_domain.proofs.rest.only_one_rest.Goals as goal

pub returns : goal.returns
returns c = record { alone = λ m n to a b ra rb u short. alone m to a b n ra rb u short }
