use Rattle.message_streams.proofs.Exact.{messages_in-lines}
use Rattle.message_streams.proofs.laws.written_is_read.Goals as goal

pub returns : goal.returns
returns c = messages_in-lines
