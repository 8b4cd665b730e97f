use Rattle.router_daemon.proofs.Notes.{all_noted, kept_by_all, kept_by_node, kept_by_take, node_noted, take_noted}
use Rattle.router_daemon.proofs.laws.notes_add_up.Goals as goal

pub returns-clause-all : goal.returns-clause-all
returns-clause-all c = all_noted

pub returns-clause-node : goal.returns-clause-node
returns-clause-node c = node_noted

pub returns-clause-emptied : goal.returns-clause-emptied
returns-clause-emptied c = take_noted

pub returns-clause-kept_by_all : goal.returns-clause-kept_by_all
returns-clause-kept_by_all c = kept_by_all

pub returns-clause-kept_by_node : goal.returns-clause-kept_by_node
returns-clause-kept_by_node c = kept_by_node

pub returns-clause-kept_by_take : goal.returns-clause-kept_by_take
returns-clause-kept_by_take c = kept_by_take
