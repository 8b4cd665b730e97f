use Rattle.netchange_core.specs.Calls.{opened}
use Rattle.route_history.proofs.Sessions.{takes_what_was_sent}
use Rattle.route_history.proofs.Takes.{within_takes}
use Rattle.route_history.proofs.laws.taken_begins_sent.Goals as goal

pub returns-clause-sent : goal.returns-clause-sent
returns-clause-sent c = takes_what_was_sent

pub returns-clause-at_most : goal.returns-clause-at_most
returns-clause-at_most c = λ opening es. within_takes (opened opening) es
