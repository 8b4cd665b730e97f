use Rattle.std.proofs.Common.{◌≡◌, ◌≤◌, ◌+◌, drop}
use Rattle.history_file.specs.Chains.{feeds}
use Rattle.history_file.proofs.chain.count_feeds.Given as goal

-- the bytes so far were counted
abbrev pub invariant-loop-byte : goal.invariant-loop-byte
invariant-loop-byte l = record {
  counted : l.count + feeds (drop l.byte-index l.bytes) ≡ feeds l.bytes;
  within : l.count ≤ l.byte-index;
}
