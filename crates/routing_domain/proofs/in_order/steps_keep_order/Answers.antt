use Rattle.routing_domain.proofs.Dropping.{drop_keeps_order}
use Rattle.routing_domain.proofs.Order.{receiving_keeps_order}
use Rattle.routing_domain.proofs.Sends.{sending_keeps_order}
use Rattle.routing_domain.proofs.in_order.steps_keep_order.Goals as goal

pub returns : goal.returns
returns c = record {
  receives = λ d u w m rest o n. receiving_keeps_order d u w m rest o n;
  sends = λ d u w max o own to. sending_keeps_order d u w max o own to;
  drops = λ d e o x. drop_keeps_order d e o x;
}
