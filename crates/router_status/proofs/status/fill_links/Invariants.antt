use Rattle.std.proofs.Common.{◌≡◌, ◌++◌, drop, map, take}
use Rattle.router_status.specs.Status.{filled, link_view, with_tables}
use Rattle.router_status.proofs.status.fill_links.Given as goal

-- those before it are filled, and the others are as they were
abbrev pub invariant-loop-link : goal.invariant-loop-link
invariant-loop-link l = record {
  raw : l.link-items ≡ map (filled l.tables) (take l.link-index l.fn.links.items) ++ drop l.link-index l.fn.links.items;
  seen : map link_view l.link-items ≡
      map (with_tables l.tables) (map link_view (take l.link-index l.fn.links.items)) ++ map link_view (drop l.link-index l.fn.links.items);
}
