use Rattle.std.proofs.Common.{◌≡◌}
use Rattle.domain_cmds.specs.Comparing.{turned_of}
use Rattle.domain_cmds.specs.Failures.{lists_below}
use Rattle.domain_cmds.proofs.comparing.turned.Given as goal

-- those of nodes of lesser numbers than this
abbrev pub invariant-loop-u : goal.invariant-loop-u
invariant-loop-u l = l.found.items ≡ lists_below l.u (turned_of l.turn l.size l.before l.after)
