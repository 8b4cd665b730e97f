-- No filter has a name yet.
use Rattle.operator_cmds.proofs.Ending.{is_fresh}
use Rattle.router_script.proofs.script.Script.new.Goals as goal

pub returns : goal.returns
returns c = is_fresh c.new.result c.new.ensures.empty
