-- What is told is what the comparison found.
use Rattle.domain_cmds.specs.Comparing.{comparison_view}
use Rattle.domain_cmds.proofs.left.told_of.Goals as goal

pub returns : goal.returns
returns c = (comparison_view c.in_ok-found.found, c.in_ok-found.ensures.ok, c.in_ok-text_of.ensures, c.loses_something.ensures)
