use Rattle.std.proofs.Common.{inl}
use Rattle.ncroute.proofs.trying.try_text.Goals as goal

pub returns-in-Ok-clause-finished : goal.returns-in-Ok-clause-finished
returns-in-Ok-clause-finished g c = inl (c.in-Ok.refused, c.in-Ok.ensures.finished c.args.how.size (rw c.in-Ok-Ok.field-0-is at c.in-Ok-Ok.ensures), c.status_of.ensures)
