use Rattle.routing_domain.proofs.Occurring.{down_cuts, down_cuts_back}
use Rattle.routing_domain.proofs.events.cutting_is_down.Goals as goal

pub returns : goal.returns
returns c = record {
  one = λ d u w s o from to held. down_cuts d u w s o from to held;
  other = λ d u w s o from to held. down_cuts_back d u w s o from to held;
}
