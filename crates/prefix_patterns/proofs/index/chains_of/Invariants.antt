use Rattle.std.proofs.Common.{◌≡◌, ℕ, ◌≤◌, get_or, length, take}
use Rattle.prefix_patterns.specs.Index.{IsChain}
use Rattle.prefix_patterns.specs.Trees.{in_bucket}
use Rattle.prefix_patterns.proofs.index.chains_of.Given as goal

-- the patterns so far are in chains
abbrev pub invariant-loop-at : goal.invariant-loop-at
invariant-loop-at l = record {
  heads : length l.heads.items ≡ 257;
  next : length l.next.items ≡ l.at;
  chain : (bucket : ℕ) → bucket ≤ 256 →
      IsChain l.patterns l.next.items (get_or l.heads.items bucket 0) (in_bucket bucket (take l.at l.patterns));
}
