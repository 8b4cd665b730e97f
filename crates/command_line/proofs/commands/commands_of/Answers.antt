use Rattle.command_line.proofs.Building.{one_more_command}
use Rattle.command_line.proofs.commands.commands_of.Goals as goal

pub loop-name-preserved : goal.loop-name-preserved
loop-name-preserved c =
    one_more_command c.args.choices c.all_commands-name-items.result.now c.loop-name.name-index _ c.loop-name-test.true c.loop-name.commands.items
    c.push.new.self.items c.in_ok-command_of.field-0 c.loop-name.invariant c.in_ok-push.ensures.items c.in_ok-command_of.ensures.app
    c.in_ok-command_of.ensures.local
