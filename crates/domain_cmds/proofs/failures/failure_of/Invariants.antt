use Rattle.std.proofs.Common.{◌≡◌, ◌≤◌, ◌*◌}
use Rattle.domain_routes.specs.Still.{least_below}
use Rattle.domain_cmds.specs.ByColumn.{changed_to, lost_to}
use Rattle.domain_cmds.specs.Failures.{count_below, is_moved, still_to, sum_below}
use Rattle.domain_cmds.proofs.failures.failure_of.Given as goal

-- those of the destinations so far
abbrev pub invariant-loop-v : goal.invariant-loop-v
invariant-loop-v l = record {
  changed : l.changed ≡ sum_below l.v (changed_to l.size l.what l.before l.after);
  lost : l.lost ≡ sum_below l.v (lost_to l.size l.what l.before l.after);
  moved : l.moved ≡ count_below l.v (is_moved l.size l.what l.before l.after);
  still : l.still ≡ least_below l.size l.v (still_to l.size l.what l.before l.after);
  few : (l.changed ≤ l.v * 65536) × (l.lost ≤ l.v * 65536) × (l.moved ≤ l.v);
}
