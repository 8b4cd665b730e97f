use Rattle.std.proofs.Common.{◌≡◌, ◌≤◌}
use Rattle.netchange_core.specs.Kept.{filter_of}
use Rattle.router_status.specs.Status.{count_below, is_export}
use Rattle.router_status.proofs.status.count_exports.Given as goal

-- those of the nodes so far are counted
abbrev pub invariant-loop-dest : goal.invariant-loop-dest
invariant-loop-dest l = record {
  counted : l.count ≡ count_below l.dest (is_export l.tables (filter_of l.filter) l.passes);
  within : l.count ≤ l.dest;
}
