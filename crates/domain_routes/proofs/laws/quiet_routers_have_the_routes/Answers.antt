use Rattle.domain_routes.proofs.Quiet.{quiet_distances, quiet_vias}
use Rattle.domain_routes.proofs.laws.quiet_routers_have_the_routes.Goals as goal

pub returns : goal.returns
returns c = record {
  distances = λ d p o q s v there routes r u short. quiet_distances d p o q s v there routes r u short;
  vias = λ d p o q s v there routes r u short. quiet_vias d p o q s v there routes r u short;
}
