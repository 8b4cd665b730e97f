use Rattle.std.proofs.Common.{length}
use Rattle.domain_files.proofs.Taking.{HasTaken}
use Rattle.domain_files.proofs.reading.read_domain.Given as goal

-- the lines so far were taken
abbrev pub invariant-loop-line : goal.invariant-loop-line
invariant-loop-line l = HasTaken l.text l.number l.left l.reading.file

abbrev pub decreases-loop-line : goal.decreases-loop-line
decreases-loop-line l = length l.left
