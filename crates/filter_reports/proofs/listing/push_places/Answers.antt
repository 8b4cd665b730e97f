use Rattle.std.proofs.Common.{◌++◌, ◌∙◌, Option, ap}
use Rattle.filter_verifier.specs.declared.fact.Fact.{Fact}
use Rattle.filter_reports.specs.Listing.{place_text}
use Rattle.filter_reports.proofs.Listings.{places_grow}
use Rattle.filter_reports.proofs.listing.push_places.Goals as goal

pub loop-place-preserved : goal.loop-place-preserved
loop-place-preserved c =
    places_grow c.args.places.now c.loop-place.place-index c.place-item.result c.args.out.now.items c.loop-place.out.items
    c.push.new.self.items c.push_place.new.out.items c.loop-place-test.true c.loop-place.invariant c.in_ok-push.ensures.items
    (c.in_ok-push_place.ensures ∙ ap (λ (p : Option Fact). c.push.new.self.items ++ place_text p) c.place-item.is)
