use Rattle.routing_domain.proofs.ByEvents.{down_by_event, receive_by_event, take_by_event, up_by_event}
use Rattle.routing_domain.proofs.networks.networks_change_by_events.Goals as goal

pub returns : goal.returns
returns c = record {
  up = λ n u w o can. up_by_event n u w o can;
  down = λ n u w s o from to held. down_by_event n u w s o from to held;
  take = λ n u w max s o from to held. take_by_event n u w max s o from to held;
  receive = λ n u w s m rest o next held. receive_by_event n u w s m rest o next held;
}
