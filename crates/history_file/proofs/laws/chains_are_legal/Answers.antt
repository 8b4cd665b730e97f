use Rattle.history_file.proofs.Chained.{begins_legal, stays_legal}
use Rattle.history_file.proofs.laws.chains_are_legal.Goals as goal

pub returns : goal.returns
returns c = record { begins = begins_legal; follows = stays_legal }
