use Rattle.link_handshake.proofs.Silence.{silent_long}
use Rattle.link_handshake.proofs.laws.silence_lasts.Goals as goal

pub returns : goal.returns
returns c = silent_long
