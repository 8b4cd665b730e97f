use Rattle.route_session.proofs.writer.write_session.Goals as goal

-- what is told of all messages is all of them
pub returns-clause-written : goal.returns-clause-written
returns-clause-written g c = c.write_turns-end.ensures.written.written
