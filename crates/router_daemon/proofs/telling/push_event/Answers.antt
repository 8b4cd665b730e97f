use Rattle.router_daemon.proofs.telling.push_event.Goals as goal

pub returns-in-Deaf : goal.returns-in-Deaf
returns-in-Deaf c = rw c.in-Deaf.is (rw c.code.ensures at c.push_three.ensures)

pub returns-in-Unlisted : goal.returns-in-Unlisted
returns-in-Unlisted c = rw c.in-Unlisted.is c.push_with_number-in-Unlisted.ensures
