use Rattle.neighbour_session.proofs.read.serve_reader.Given as goal

-- the reader of the neighbour
abbrev pub ghosts-read_all : goal.ghosts-read_all
ghosts-read_all g a = record { reader = a.input }
