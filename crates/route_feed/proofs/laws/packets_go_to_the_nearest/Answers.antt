use Rattle.route_feed.proofs.Choosing.{to_itself, to_nearest, to_nobody}
use Rattle.route_feed.proofs.laws.packets_go_to_the_nearest.Goals as goal

pub returns-clause-nearest : goal.returns-clause-nearest
returns-clause-nearest c = to_nearest

pub returns-clause-none : goal.returns-clause-none
returns-clause-none c = to_nobody

pub returns-clause-own : goal.returns-clause-own
returns-clause-own c = to_itself
