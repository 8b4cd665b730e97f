use Rattle.neighbour_session.proofs.write.serve_writer.Given as goal

-- the stream that is written to
abbrev pub ghosts-write_all : goal.ghosts-write_all
ghosts-write_all g a = record { writer = a.output }
