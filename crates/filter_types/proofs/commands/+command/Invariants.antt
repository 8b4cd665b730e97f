use Rattle.std.proofs.Common.{◌≤◌, ◌+◌, ◌*◌, map, take}
use Rattle.filter_syntax.specs.SyntaxCommands.{commands_of, parts_of, view_command, view_decl, view_part}
use Rattle.filter_types.specs.Kinds.{KindsFitAll, KindsFitParts}
use Rattle.filter_types.proofs.commands.+command.Given as goal

-- the parts of a `case` are as deep as the commands in them
abbrev pub decreases-check_parts : goal.decreases-check_parts
decreases-check_parts l = 3 * goal.size-check_parts l + 2

abbrev pub decreases-check_commands : goal.decreases-check_commands
decreases-check_commands l = 3 * goal.size-check_commands l + 1

abbrev pub decreases-check_command : goal.decreases-check_command
decreases-check_command l = 3 * goal.size-check_command l

-- the commands so far fit
abbrev pub invariant-check_commands-loop-command : goal.invariant-check_commands-loop-command
invariant-check_commands-loop-command l =
    KindsFitAll (map view_decl l.variables) (commands_of (map view_command (take l.command-index l.commands)))

-- the commands of the parts so far fit, and none of these parts is the one with the shared label
abbrev pub invariant-check_parts-loop-number : goal.invariant-check_parts-loop-number
invariant-check_parts-loop-number l =
    KindsFitParts (map view_decl l.variables) (parts_of (map view_part (take l.number l.parts))) × (l.number ≤ l.shared)
