use Rattle.routing_domain.proofs.Getting.{gets_orderly}
use Rattle.routing_domain.proofs.Handing.{hands_orderly}
use Rattle.routing_domain.proofs.networks.steps_keep_networks_orderly.Goals as goal

pub returns : goal.returns
returns c = record {
  hands = λ n u w max o from to apart. hands_orderly n u w max o from to apart;
  gets = λ n u w m rest o next. gets_orderly n u w m rest o next;
}
