use Rattle.routing_domain.proofs.Arriving.{Hops, routes_arrive}
use Rattle.routing_domain.proofs.rest.routes_arrive.Goals as goal

pub returns : goal.returns
returns c = record { arrives = λ m n to a r u short reach. let h : Hops m to a u = routes_arrive m to a n r u short reach in (h.count, h.few, h.arrives) }
