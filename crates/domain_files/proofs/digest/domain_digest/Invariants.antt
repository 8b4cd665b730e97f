use Rattle.std.proofs.Common.{◌++◌}
use Rattle.operator_cmds.specs.Looks.{texts_below}
use Rattle.sha2.specs.Hashers.{Holds256}
use Rattle.domain_files.specs.PlanTexts.{node_lines, size_line}
use Rattle.domain_files.proofs.digest.domain_digest.Given as goal

-- the hasher holds the size, and what is told of the nodes so far
abbrev pub invariant-loop-u : goal.invariant-loop-u
invariant-loop-u l = Holds256 l.hasher (size_line l.plan.size ++ texts_below l.u (node_lines l.plan))
