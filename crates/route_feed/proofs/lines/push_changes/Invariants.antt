use Rattle.std.proofs.Common.{◌≡◌, ◌++◌}
use Rattle.route_feed.specs.Changes.{changes_below}
use Rattle.route_feed.specs.Lines.{changes_text}
use Rattle.route_feed.specs.Table.{hop_at, prefix_at}
use Rattle.route_feed.proofs.lines.push_changes.Given as goal

-- the lines for the nodes so far were added
abbrev pub invariant-loop-v : goal.invariant-loop-v
invariant-loop-v l = record {
  added : l.out.items ≡ l.fn.out.items ++ changes_text (changes_below (prefix_at l.prefixes) (hop_at l.old) (hop_at l.new) l.v);
}
