use Rattle.std.proofs.Common.{◌≡◌, ◌++◌, take}
use Rattle.filter_reports.specs.Listing.{places_text}
use Rattle.filter_reports.proofs.listing.push_places.Given as goal

abbrev pub invariant-loop-place : goal.invariant-loop-place
invariant-loop-place l = l.out.items ≡ l.fn.out.items ++ places_text (take l.place-index l.places)
