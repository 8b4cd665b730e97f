use Rattle.std.proofs.Common.{◌≡◌, ◌++◌, drop, flat_map}
use Rattle.std.specs.Io.{StartsWith}
use Rattle.router_status.specs.Lines.{link_text}
use Rattle.router_status.specs.Status.{link_view}
use Rattle.router_status.specs.declared.status.LinkStatus.{LinkStatus}
use Rattle.router_status.proofs.text.push_links.Given as goal

-- those so far were added, and those that are left will be
abbrev pub invariant-loop-link : goal.invariant-loop-link
invariant-loop-link l = record {
  added : l.out.items ++ flat_map (λ (link : LinkStatus). link_text (link_view link)) (drop l.link-index l.links)
      ≡ l.fn.out.items ++ flat_map (λ (link : LinkStatus). link_text (link_view link)) l.links;
  front : StartsWith l.out.items l.fn.out.items;
}
