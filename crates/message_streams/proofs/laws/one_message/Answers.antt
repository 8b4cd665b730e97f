use Rattle.message_streams.proofs.Exact.{message_apart, message_exact}
use Rattle.message_streams.proofs.laws.one_message.Goals as goal

pub returns : goal.returns
returns c = record { exact = message_exact; apart = message_apart }
