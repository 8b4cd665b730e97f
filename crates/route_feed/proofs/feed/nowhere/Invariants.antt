use Rattle.route_feed.specs.Steps.{AreNowhere}
use Rattle.route_feed.proofs.feed.nowhere.Given as goal

-- as many nodes as so far
abbrev pub invariant-loop-node : goal.invariant-loop-node
invariant-loop-node l = record { nowhere : AreNowhere l._node l.hops.items }
