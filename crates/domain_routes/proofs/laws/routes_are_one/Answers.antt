use Rattle.domain_routes.specs.Topology.{topology}
use Rattle.domain_routes.proofs.Increasing.{never_nearer}
use Rattle.domain_routes.proofs.One.{one}
use Rattle.domain_routes.proofs.laws.routes_are_one.Goals as goal

pub returns : goal.returns
returns c = record { alone = λ p v a b ra rb. one (topology p v) v (never_nearer p v) a b ra rb }
