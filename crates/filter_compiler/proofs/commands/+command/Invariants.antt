use Rattle.std.proofs.Common.{◌+◌, map, take}
use Rattle.std.specs.Prelude.{flat_map}
use Rattle.filter_syntax.specs.SyntaxCommands.{commands_of, view_command}
use Rattle.filter_syntax.specs.SyntaxText.{view_filter}
use Rattle.filter_compiler.specs.InstructionPlaces.{command_places}
use Rattle.filter_compiler.specs.Written.{Emits, Notes, commands_part}
use Rattle.filter_compiler.proofs.Weights.{commands_weight, parts_weight, weight}
use Rattle.filter_compiler.proofs.commands.+command.Given as goal

-- the commands so far are written
abbrev pub invariant-emit_commands-loop-command : goal.invariant-emit_commands-loop-command
invariant-emit_commands-loop-command l =
    Emits l.initial.out l.out l.initial.next l.next (commands_part (view_filter l.typed).decls (commands_of (map view_command (take l.command-index l.commands))))
    × Notes l.initial.out l.out (flat_map command_places (take l.command-index l.commands))

abbrev pub decreases-emit_commands : goal.decreases-emit_commands
decreases-emit_commands l = 1 + commands_weight l.commands.now

abbrev pub decreases-emit_command : goal.decreases-emit_command
decreases-emit_command l = weight l.command.now

abbrev pub decreases-emit_part : goal.decreases-emit_part
decreases-emit_part l = 2 + commands_weight l.commands.now

abbrev pub decreases-emit_parts : goal.decreases-emit_parts
decreases-emit_parts l = parts_weight l.parts.now + (2 + commands_weight l.other.now)

abbrev pub decreases-emit_case : goal.decreases-emit_case
decreases-emit_case l = parts_weight l.parts.now + 5
