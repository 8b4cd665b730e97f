use Rattle.std.proofs.Common.{◌≡◌, ◌+◌, ◌*◌, drop, map}
use Rattle.filter_syntax.specs.SyntaxCommands.{commands_of, parts_of, view_command, view_part}
use Rattle.bird_import.specs.Unassigned.{assigns_in, assigns_in_parts}
use Rattle.bird_import.proofs.unset.+assigning.Given as goal

-- the parts of a `case` are as deep as the commands in them
abbrev pub decreases-assigns_in_parts : goal.decreases-assigns_in_parts
decreases-assigns_in_parts l = 3 * goal.size-assigns_in_parts l + 2

abbrev pub decreases-assigns_in : goal.decreases-assigns_in
decreases-assigns_in l = 3 * goal.size-assigns_in l + 1

abbrev pub decreases-assigns : goal.decreases-assigns
decreases-assigns l = 3 * goal.size-assigns l

-- the commands that are left answer for all of them
abbrev pub invariant-assigns_in-loop-command : goal.invariant-assigns_in-loop-command
invariant-assigns_in-loop-command l =
    assigns_in l.variable (commands_of (map view_command l.commands))
    ≡ assigns_in l.variable (commands_of (map view_command (drop l.command-index l.commands)))

abbrev pub invariant-assigns_in_parts-loop-commands : goal.invariant-assigns_in_parts-loop-commands
invariant-assigns_in_parts-loop-commands l =
    assigns_in_parts l.variable (parts_of (map view_part l.parts))
    ≡ assigns_in_parts l.variable (parts_of (map view_part (drop l.commands-index l.parts)))
