use Rattle.message_streams.proofs.Exact.{message_short}
use Rattle.message_streams.proofs.laws.lines_are_short.Goals as goal

pub returns : goal.returns
returns c = message_short
