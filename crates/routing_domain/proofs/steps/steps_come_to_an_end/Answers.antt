use Rattle.routing_domain.proofs.Dropping.{drop_is_lighter}
use Rattle.routing_domain.proofs.Receiving.{receiving_is_lighter}
use Rattle.routing_domain.proofs.Lighter.{sending_is_lighter}
use Rattle.routing_domain.proofs.steps.steps_come_to_an_end.Goals as goal

pub returns : goal.returns
returns c = record {
  receives = λ d u w m rest o n. receiving_is_lighter d u w m rest o n;
  sends = λ d u w max o own to some. sending_is_lighter d u w max o own to some;
  drops = λ d e x. drop_is_lighter d e x;
}
