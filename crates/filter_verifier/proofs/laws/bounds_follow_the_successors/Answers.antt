use Rattle.filter_verifier.proofs.Costs.{has_bounds}
use Rattle.filter_verifier.proofs.laws.bounds_follow_the_successors.Goals as goal

pub returns : goal.returns
returns c = has_bounds
