use Rattle.filter_reports.specs.Listing.{Lists, nothing_known, origin_in}
use Rattle.filter_reports.proofs.listing.list_instructions.Given as goal

abbrev pub invariant-loop-at : goal.invariant-loop-at
invariant-loop-at l = Lists l.code.instrs nothing_known (origin_in l.origins.source l.origins.places.now) l.at l.out.items
