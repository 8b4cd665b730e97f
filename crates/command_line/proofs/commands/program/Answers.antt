use Rattle.command_line.proofs.Building.{program_made}
use Rattle.command_line.proofs.commands.program.Goals as goal

pub returns : goal.returns
returns c =
    let commands = c.in_ok-commands_of.ensures in
    program_made c.args.choices c.bare_program.result c.in_ok-commands_of.field-0.items c.subcommands.result c.bare_program.ensures commands.shapes
    commands.local c.subcommands.ensures
