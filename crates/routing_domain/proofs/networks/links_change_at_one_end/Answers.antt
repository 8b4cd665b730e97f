use Rattle.routing_domain.proofs.ComingUp.{comes_up_orderly}
use Rattle.routing_domain.proofs.GoingDown.{fails_orderly, goes_down_orderly}
use Rattle.routing_domain.proofs.networks.links_change_at_one_end.Goals as goal

pub returns : goal.returns
returns c = record {
  up = λ n u w o can. comes_up_orderly n u w o can;
  down = λ n u w o from to linked. goes_down_orderly n u w o from to linked;
  fail = λ n u w kept o from to. fails_orderly n u w kept o from to;
}
