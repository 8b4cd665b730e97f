use Rattle.neighbour_session.proofs.ends.push_greeting_fault.Goals as goal

pub returns-in-OtherNode-clause-ok : goal.returns-in-OtherNode-clause-ok
returns-in-OtherNode-clause-ok c =
    rw c.in-OtherNode.is (rw c.from-in-OtherNode.ensures at c.push_with_number.ensures.ok)
