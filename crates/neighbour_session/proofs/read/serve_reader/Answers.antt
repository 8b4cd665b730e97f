-- What was read of the neighbour, and how the session ended.
use Rattle.neighbour_session.proofs.read.serve_reader.Goals as goal

pub returns-clause-hears : goal.returns-clause-hears
returns-clause-hears g c = record {
  before = c.read_all-why.new.pass;
  why = c.read_all-why.result.0;
  reads = c.read_all-why.ensures.reads;
  ends = c.end_session-why.ensures.ends;
}
