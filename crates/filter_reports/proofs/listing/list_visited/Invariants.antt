use Rattle.filter_reports.specs.Listing.{Lists, known_before, origin_in}
use Rattle.filter_reports.proofs.listing.list_visited.Given as goal

abbrev pub invariant-loop-at : goal.invariant-loop-at
invariant-loop-at l = Lists l.code.instrs (known_before l.code l.size) (origin_in l.origins.source l.origins.places.now) l.at l.out.items
