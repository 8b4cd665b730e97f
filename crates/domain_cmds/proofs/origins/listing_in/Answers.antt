-- What is listed is the listing.
use Rattle.filter_reports.specs.Listing.{refusal_in}
use Rattle.domain_cmds.proofs.origins.listing_in.Goals as goal

pub returns : goal.returns
returns c = (refusal_in c.in_ok-listing.listing.diagnosis, c.in_ok-listing.ensures.listing)
