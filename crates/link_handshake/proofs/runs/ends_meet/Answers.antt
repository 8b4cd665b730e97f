use Rattle.link_handshake.proofs.Meeting.{meet}
use Rattle.link_handshake.proofs.runs.ends_meet.Goals as goal

pub returns : goal.returns
returns c = meet
