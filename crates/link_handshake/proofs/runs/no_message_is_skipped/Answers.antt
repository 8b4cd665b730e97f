use Rattle.link_handshake.specs.Links.{turned}
use Rattle.link_handshake.proofs.Acting.{turned_orderly}
use Rattle.link_handshake.proofs.Reached.{none_skipped, reached_orderly}
use Rattle.link_handshake.proofs.runs.no_message_is_skipped.Goals as goal

pub returns : goal.returns
returns c = record {
  here = λ l g rest r e. none_skipped l g rest (reached_orderly l r) e;
  there = λ l g rest r e. none_skipped (turned l) g rest (turned_orderly l (reached_orderly l r)) e;
}
