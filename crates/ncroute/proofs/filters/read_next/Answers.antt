-- The filter that was read is the one that was added.
use Rattle.ncroute.proofs.FiltersRead.{added, left}
use Rattle.ncroute.proofs.filters.read_next.Goals as goal

pub returns-clause-read : goal.returns-clause-read
returns-clause-read g c = added _ _ c.in_ok-filter.filter c.in_ok-filter.ensures.read c.add.result c.add.ensures.ok

pub returns-clause-unread : goal.returns-clause-unread
returns-clause-unread g c = left _ c.add.result c.add.ensures.err
