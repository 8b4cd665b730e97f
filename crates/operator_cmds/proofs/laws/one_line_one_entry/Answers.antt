use Rattle.operator_cmds.proofs.Going.{goes_on}
use Rattle.operator_cmds.proofs.laws.one_line_one_entry.Goals as goal

pub returns : goal.returns
returns c = goes_on
