use Rattle.std.proofs.Common.{◌≡◌, ◌++◌, ◌<◌, ◌≤◌, ℕ, drop, get_or, map, length}
use Rattle.std.specs.Io.{StartsWith}
use Rattle.prefix_patterns.specs.Spelling.{prefix_text}
use Rattle.history_lines.specs.Text.{spaced}
use Rattle.history_lines.proofs.writing.push_prefixes.Given as goal

-- the prefixes so far were added and fit, and those that are left will be
abbrev pub invariant-loop-prefix : goal.invariant-loop-prefix
invariant-loop-prefix l = record {
  added : l.out.items ++ spaced (map prefix_text (drop l.prefix-index l.prefixes)) ≡
      l.fn.out.items ++ spaced (map prefix_text l.prefixes);
  fits : (k : ℕ) (d : _) → k < l.prefix-index → length (get_or l.prefixes k d) ≤ 32;
  front : StartsWith l.out.items l.fn.out.items;
}
