use Rattle.routing_domain.proofs.Forwarding.{Hops, forwards}
use Rattle.routing_domain.proofs.rest.quiet_routers_forward.Goals as goal

pub returns : goal.returns
returns c = record { forwards = λ d o q v there u short reach. let h : Hops d v u = forwards d o q v there u short reach in (h.count, h.few, h.forwards) }
