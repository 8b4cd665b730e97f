use Rattle.link_handshake.specs.Links.{turned}
use Rattle.link_handshake.proofs.Acting.{turned_orderly}
use Rattle.link_handshake.proofs.Reached.{reached_orderly, taken_of_session}
use Rattle.link_handshake.proofs.runs.messages_are_of_the_session.Goals as goal

pub returns : goal.returns
returns c = record {
  here = λ l x rest next m r e taken. taken_of_session l x rest next m (reached_orderly l r) e taken;
  there = λ l x rest next m r e taken. taken_of_session (turned l) x rest next m (turned_orderly l (reached_orderly l r)) e taken;
}
