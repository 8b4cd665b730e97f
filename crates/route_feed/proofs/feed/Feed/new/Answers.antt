use Rattle.std.proofs.Common.{ap}
use Rattle.route_feed.proofs.Telling.{new_fed}
use Rattle.route_feed.proofs.feed.Feed.new.Goals as goal

pub returns-clause-nothing : goal.returns-clause-nothing
returns-clause-nothing g c j =
    new_fed c.args.opening.now c.in_ok-opening.opening c.size.result _ _ c.in_ok-hops.hops.items j c.in_ok-opening.ensures c.size.ensures.value
    (ap g.V.Write.contents c.of.ensures) c.in_ok-hops.ensures
