use Rattle.route_history.proofs.Beginnings.{shared_on}
use Rattle.route_history.proofs.laws.each_position_once.Goals as goal

pub returns : goal.returns
returns c = shared_on
