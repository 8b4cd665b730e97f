use Rattle.std.proofs.Common.{◌∙◌, ◌<◌, Option, Some, List, ap, refl, subst, sym}
use Rattle.route_feed.specs.declared.hop.Hop.{Hop}
use Rattle.route_feed.specs.Feeding.{FeedView, HasFed}
use Rattle.route_feed.specs.Steps.{IsStill, news_block}
use Rattle.route_feed.proofs.Telling.{spoke, told_hops, told_still}
use Rattle.route_feed.proofs.feed.Feed.tell_look.Goals as goal

pub returns-then-is_still-clause-fed : goal.returns-then-is_still-clause-fed
returns-then-is_still-clause-fed g c j same looks fed =
    let f = c.args.self.now in
    subst (λ (x : FeedView). HasFed x j) (ap (λ (x : FeedView). record x { at = Some c.args.look.now.end }) (sym c.self.view_is))
    (told_still f f j same (subst (λ (x : FeedView). x.opening.me < x.opening.size) c.self.view_is c.size-size.ensures.limits.member)
    c.args.look.now looks fed c.prefixes.result.now c.size-size.result c.as_slice.result.now c.in-Ok.hops.items
    (c.prefixes.ensures.value ∙ ap (λ (x : FeedView). x.opening.prefixes) c.self.view_is)
    (c.size-size.ensures.value ∙ ap (λ (x : FeedView). x.opening.size) c.self.view_is)
    c.as_slice.ensures.value c.in-Ok.ensures
    (subst (λ (l : List (Option Hop)). IsStill f l) c.as_slice-in-Ok.ensures.value (c.is_still.ensures.still c.if-is_still.true)))

pub returns-else-is_still-clause-fed : goal.returns-else-is_still-clause-fed
returns-else-is_still-clause-fed g c j same looks fed =
    let f = c.args.self.now in
    told_hops f c.tell_hops.new.self j same (subst (λ (x : FeedView). x.opening.me < x.opening.size) c.self.view_is c.size-size.ensures.limits.member)
    c.args.look.now looks fed c.prefixes.result.now c.size-size.result c.as_slice.result.now c.in-Ok.hops.items
    (c.prefixes.ensures.value ∙ ap (λ (x : FeedView). x.opening.prefixes) c.self.view_is)
    (c.size-size.ensures.value ∙ ap (λ (x : FeedView). x.opening.size) c.self.view_is)
    c.as_slice.ensures.value c.in-Ok.ensures c.requires.goes_on c.tell_hops.result c.tell_hops.ensures.ok c.tell_hops.ensures.err

pub returns-else-is_still-clause-spoken : goal.returns-else-is_still-clause-spoken
returns-else-is_still-clause-spoken g c =
    let f = c.args.self.now in
    let hops = c.in-Ok.hops.items in
    let end = c.args.look.now.end in
    spoke f c.tell_hops.new.self (news_block f hops end) hops end c.args.speaks c.tell_hops.result refl c.tell_hops.ensures.ok
