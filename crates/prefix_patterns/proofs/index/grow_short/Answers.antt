use Rattle.std.proofs.Common.{arith}
use Rattle.prefix_patterns.proofs.index.grow_short.Goals as goal

pub returns-clause-stands : goal.returns-clause-stands
returns-clause-stands c = λ levels e. c.in_ok-subtree.ensures.stands levels (omega arith)
