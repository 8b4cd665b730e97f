use Rattle.route_answers.proofs.RouteLines.{faults, routes}
use Rattle.route_answers.proofs.laws.route_lines.Goals as goal

pub returns-clause-found : goal.returns-clause-found
returns-clause-found c = routes

pub returns-clause-refused : goal.returns-clause-refused
returns-clause-refused c = faults
