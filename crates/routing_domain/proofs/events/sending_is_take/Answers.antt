use Rattle.routing_domain.proofs.Occurring.{take_sends}
use Rattle.routing_domain.proofs.events.sending_is_take.Goals as goal

pub returns : goal.returns
returns c = record { taken = λ d u w max s o from to held. take_sends d u w max s o from held }
