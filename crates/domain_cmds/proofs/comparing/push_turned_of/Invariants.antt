use Rattle.std.proofs.Common.{◌≡◌, ◌++◌}
use Rattle.domain_cmds.specs.Comparing.{turned_at}
use Rattle.domain_cmds.specs.Failures.{lists_below}
use Rattle.domain_cmds.proofs.comparing.push_turned_of.Given as goal

-- those of lesser numbers than this were added
abbrev pub invariant-loop-v : goal.invariant-loop-v
invariant-loop-v l = l.found.items ≡ l.fn.found.items ++ lists_below l.v (turned_at l.turn l.size l.before l.after l.u)
