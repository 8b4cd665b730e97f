use Rattle.std.proofs.Common.{◌≡◌, ◌++◌}
use Rattle.operator_cmds.specs.Looks.{texts_below}
use Rattle.domain_files.specs.PlanTexts.{peer_lines}
use Rattle.domain_files.proofs.digest.push_peers.Given as goal

-- what it has for the nodes so far was added
abbrev pub invariant-loop-w : goal.invariant-loop-w
invariant-loop-w l = l.out.items ≡ l.fn.out.items ++ texts_below l.w (peer_lines l.plan l.u)
