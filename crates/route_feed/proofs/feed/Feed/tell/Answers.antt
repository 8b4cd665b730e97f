use Rattle.std.proofs.Common.{◌∙◌, sym}
use Rattle.route_feed.specs.Feeding.{seen_by}
use Rattle.route_feed.proofs.Telling.{look_found, still_fed}
use Rattle.route_feed.proofs.feed.Feed.tell.Goals as goal

pub returns-in-Some-clause-fed : goal.returns-in-Some-clause-fed
returns-in-Some-clause-fed g c =
    let r = c.args.router.now in
    let new = c.observe.new.pass in
    let seen = c.observe.ensures.observed in
    c.tell_look.ensures.fed (seen_by r new) (sym c.requires.opening)
    (look_found (seen_by r new) _ c.in-Some.look (sym c.look.ensures ∙ c.in-Some.is) seen.saw)
    (still_fed r c.args.pass.now new seen.begins c.args.self.now c.requires.fed)

pub returns-in-None-clause-fed : goal.returns-in-None-clause-fed
returns-in-None-clause-fed g c =
    still_fed c.args.router.now c.args.pass.now c.observe.new.pass c.observe.ensures.observed.begins c.args.self.now c.requires.fed
