use Rattle.route_history.proofs.Beginnings.{nested}
use Rattle.route_history.proofs.Histories.{legal_begins}
use Rattle.route_history.proofs.laws.beginnings_are_legal.Goals as goal

pub returns-clause-legal : goal.returns-clause-legal
returns-clause-legal c = legal_begins

pub returns-clause-nested : goal.returns-clause-nested
returns-clause-nested c = nested
