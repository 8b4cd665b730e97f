use Rattle.link_handshake.proofs.Counting.{no_more}
use Rattle.link_handshake.proofs.runs.greetings_do_not_multiply.Goals as goal

pub returns : goal.returns
returns c = no_more
