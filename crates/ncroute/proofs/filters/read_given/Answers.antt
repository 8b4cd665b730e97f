use Rattle.std.proofs.Common.{rules}
use Rattle.ncroute.proofs.filters.read_given.Goals as goal

pub returns-after-tell_unread : goal.returns-after-tell_unread
returns-after-tell_unread g c = rw (← c.console.view_is) (search rules)
