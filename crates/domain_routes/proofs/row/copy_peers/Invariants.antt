use Rattle.std.proofs.Common.{◌≡◌, ◌++◌, drop}
use Rattle.domain_routes.proofs.row.copy_peers.Given as goal

-- those so far, and those that are left, are all
abbrev pub invariant-loop-peer : goal.invariant-loop-peer
invariant-loop-peer l = l.copies.items ++ drop l.peer-index l.peers ≡ l.peers
