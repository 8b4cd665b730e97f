use Rattle.domain_routes.proofs.Reach.{plan_quiet, plan_within}
use Rattle.domain_routes.proofs.laws.reach_bounds_phases.Goals as goal

pub returns : goal.returns
returns c = record {
  within = λ d p all o s routes. plan_within d p all o s routes;
  quiet = λ d e p all o s routes phases. plan_quiet d e p all o s routes phases;
}
