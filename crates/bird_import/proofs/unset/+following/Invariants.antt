use Rattle.std.proofs.Common.{◌≡◌, ◌+◌, ◌*◌, drop, map}
use Rattle.filter_syntax.specs.SyntaxCommands.{commands_of, parts_of, view_command, view_part}
use Rattle.bird_import.specs.Unassigned.{reads_first_in, reads_first_in_parts}
use Rattle.bird_import.proofs.unset.+following.Given as goal

-- the parts of a `case` are as deep as the commands in them
abbrev pub decreases-unset_in_parts : goal.decreases-unset_in_parts
decreases-unset_in_parts l = 3 * goal.size-unset_in_parts l + 2

abbrev pub decreases-unset_in : goal.decreases-unset_in
decreases-unset_in l = 3 * goal.size-unset_in l + 1

abbrev pub decreases-unset_by : goal.decreases-unset_by
decreases-unset_by l = 3 * goal.size-unset_by l

-- the commands that are left answer for all of them
abbrev pub invariant-unset_in-loop-command : goal.invariant-unset_in-loop-command
invariant-unset_in-loop-command l =
    reads_first_in l.variable (commands_of (map view_command l.commands))
    ≡ reads_first_in l.variable (commands_of (map view_command (drop l.command-index l.commands)))

abbrev pub invariant-unset_in_parts-loop-commands : goal.invariant-unset_in_parts-loop-commands
invariant-unset_in_parts-loop-commands l =
    reads_first_in_parts l.variable (parts_of (map view_part l.parts))
    ≡ reads_first_in_parts l.variable (parts_of (map view_part (drop l.commands-index l.parts)))
