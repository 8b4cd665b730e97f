use Rattle.route_feed.specs.Table.{AreHops, prefix_at, route_at, table_by}
use Rattle.route_feed.proofs.table.hops_of.Given as goal

-- the nodes so far have theirs
abbrev pub invariant-loop-v : goal.invariant-loop-v
invariant-loop-v l = record {
  hops : AreHops l.v (prefix_at l.prefixes) (table_by l.size (prefix_at l.prefixes) (route_at l.routes)) l.hops.items;
}
