use Rattle.routing_domain.proofs.Occurring.{first_is_next, receive_receives}
use Rattle.routing_domain.proofs.events.receiving_is_receive.Goals as goal

pub returns : goal.returns
returns c = record { is_next = λ d u w m rest o from to first. first_is_next d u w m rest o from to first; received = λ d u w s m rest o n held. receive_receives d u w s m rest o n held }
