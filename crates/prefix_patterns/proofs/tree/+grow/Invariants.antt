use Rattle.std.proofs.Common.{◌-◌}
use Rattle.prefix_patterns.proofs.tree.+grow.Given as goal

abbrev pub decreases-grow : goal.decreases-grow
decreases-grow l = 33 - l.depth
