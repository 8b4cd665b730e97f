use Rattle.std.proofs.Common.{◌≡◌, ◌++◌, decimal, drop, map}
use Rattle.std.specs.Io.{StartsWith}
use Rattle.history_lines.specs.Text.{spaced}
use Rattle.history_file.proofs.state.push_distances.Given as goal

-- the distances so far were added, and those that are left will be
abbrev pub invariant-loop-dist : goal.invariant-loop-dist
invariant-loop-dist l = record {
  added : l.out.items ++ spaced (map decimal (drop l.dist-index l.distances)) ≡ l.fn.out.items ++ spaced (map decimal l.distances);
  front : StartsWith l.out.items l.fn.out.items;
}
