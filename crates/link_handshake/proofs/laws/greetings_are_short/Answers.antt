use Rattle.link_handshake.proofs.Greetings.{greeting_short}
use Rattle.link_handshake.proofs.laws.greetings_are_short.Goals as goal

pub returns : goal.returns
returns c = greeting_short
