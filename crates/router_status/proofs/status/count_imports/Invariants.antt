use Rattle.std.proofs.Common.{◌≡◌, ◌≤◌}
use Rattle.router_status.specs.Status.{count_below, is_import}
use Rattle.router_status.proofs.status.count_imports.Given as goal

-- those of the nodes so far are counted
abbrev pub invariant-loop-dest : goal.invariant-loop-dest
invariant-loop-dest l = record {
  counted : l.count ≡ count_below l.dest (is_import l.tables l.node l.passes);
  within : l.count ≤ l.dest;
}
