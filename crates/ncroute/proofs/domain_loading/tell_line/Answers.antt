-- The line is shown as it is.
use Rattle.ncroute.proofs.domain_loading.tell_line.Goals as goal

pub returns : goal.returns
returns g c = (c.shown-shown.result, (c.shown-shown.ensures.number, c.shown-shown.ensures.line, c.shown-shown.ensures.answer), c.tell_refused.ensures)
