use Rattle.std.proofs.Common.{◌≡◌}
use Rattle.route_feed.specs.Table.{is_had_below, prefix_at}
use Rattle.route_feed.proofs.lines.is_first.Given as goal

-- whether one of the nodes so far has the prefix
abbrev pub invariant-loop-v : goal.invariant-loop-v
invariant-loop-v l = record { had : l.is_had ≡ is_had_below (prefix_at l.prefixes) l.prefix l.v }
