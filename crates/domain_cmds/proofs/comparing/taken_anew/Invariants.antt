use Rattle.std.proofs.Common.{◌≡◌, ◌≤◌, ◌*◌}
use Rattle.domain_cmds.specs.Comparing.{taken_anew_of}
use Rattle.domain_cmds.specs.Failures.{sum_below}
use Rattle.domain_cmds.proofs.comparing.taken_anew.Given as goal

-- those so far
abbrev pub invariant-loop-u : goal.invariant-loop-u
invariant-loop-u l = record {
  summed : l.sum ≡ sum_below l.u (taken_anew_of l.size l.what l.then_failed l.now l.now_failed);
  few : l.sum ≤ l.u * 65536;
}
