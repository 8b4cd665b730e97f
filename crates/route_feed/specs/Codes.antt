-- The codes of the faults of a feed. (This project's own choice.)
use Rattle.std.specs.Prelude.{ℕ, List, codes}
use Rattle.route_feed.specs.declared.fault.FeedFault.{FeedFault}
use Rattle.route_feed.specs.declared.fault.FeedFault.TheVariants as fault

-- the code of a fault, as ASCII text
abbrev pub feed_code : FeedFault → List ℕ
feed_code fault.Write = codes "E2"
feed_code fault.Memory = codes "E3"
