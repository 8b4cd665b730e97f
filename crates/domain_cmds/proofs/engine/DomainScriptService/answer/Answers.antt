-- The line has room for the source of its command.
use Rattle.domain_cmds.specs.CommandView.{view_of}
use Rattle.domain_cmds.proofs.Shortness.{short_command}
use Rattle.domain_cmds.proofs.engine.DomainScriptService.answer.Goals as goal

pub carry_out-requires : goal.carry_out-requires
carry_out-requires c = short_command c.args.line.now (view_of c.in-Ok.command) c.in-Ok.ensures
