use Rattle.std.proofs.Common.{◌+◌, ◌*◌, map, take}
use Rattle.filter_syntax.specs.SyntaxCommands.{commands_of, parts_of, view_command, view_part}
use Rattle.filter_compiler.specs.Translation.{commands_sets, parts_sets}
use Rattle.filter_compiler.specs.Written.{Gathers}
use Rattle.filter_compiler.proofs.sets.+gathering_commands.Given as goal

-- the parts of a `case` are as deep as the commands in them
abbrev pub decreases-gather_parts : goal.decreases-gather_parts
decreases-gather_parts l = 3 * goal.size-gather_parts l + 2

abbrev pub decreases-gather_commands : goal.decreases-gather_commands
decreases-gather_commands l = 3 * goal.size-gather_commands l + 1

abbrev pub decreases-gather_command : goal.decreases-gather_command
decreases-gather_command l = 3 * goal.size-gather_command l

-- the sets of the commands so far are put
abbrev pub invariant-gather_commands-loop-command : goal.invariant-gather_commands-loop-command
invariant-gather_commands-loop-command l =
    Gathers l.initial.lists l.lists (commands_sets (commands_of (map view_command (take l.command-index l.commands))))

-- the sets of the parts so far are put
abbrev pub invariant-gather_parts-loop-label : goal.invariant-gather_parts-loop-label
invariant-gather_parts-loop-label l =
    Gathers l.initial.lists l.lists (parts_sets (parts_of (map view_part (take l.label-index l.parts))))
