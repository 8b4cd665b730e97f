use Rattle.std.proofs.Common.{length}
use Rattle.history_file.proofs.Chained.{IsAt}
use Rattle.history_file.proofs.chain.Chain.replay.Given as goal

-- so many entries were replayed
abbrev pub invariant-loop-line : goal.invariant-loop-line
invariant-loop-line l = IsAt l.bytes l.fn.self l.self l.count l.rest

abbrev pub decreases-loop-line : goal.decreases-loop-line
decreases-loop-line l = length l.rest
