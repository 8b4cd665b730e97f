use Rattle.std.proofs.Common.{◌≡◌, ◌≤◌}
use Rattle.domain_cmds.specs.Comparing.{is_taken_anew}
use Rattle.domain_cmds.specs.Failures.{count_below}
use Rattle.domain_cmds.proofs.comparing.taken_anew_of.Given as goal

-- those so far
abbrev pub invariant-loop-v : goal.invariant-loop-v
invariant-loop-v l = record {
  counted : l.count ≡ count_below l.v (is_taken_anew l.size l.what l.then_failed l.now l.now_failed l.u);
  few : l.count ≤ l.v;
}
