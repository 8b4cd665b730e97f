use Rattle.std.proofs.Common.{◌≤◌, ◌+◌, ◌*◌, [], length, map}
use Rattle.filter_parser.specs.ReadingCommands.{command_at, commands_with, parts_with}
use Rattle.filter_syntax.specs.Placed.{command_kept, part_kept}
use Rattle.expression_parser.specs.Steps.{Follows, Grown, remaining}
use Rattle.filter_syntax.specs.SyntaxCommands.{view_command, view_part}
use Rattle.filter_parser.proofs.Bodies.{Goes}
use Rattle.filter_parser.proofs.CaseParts.{Goes as GoesOn}
use Rattle.filter_parser.proofs.command.+command.Given as goal

abbrev pub decreases-parse_block : goal.decreases-parse_block
decreases-parse_block l = 6 * l.depth

abbrev pub decreases-parse_case : goal.decreases-parse_case
decreases-parse_case l = 6 * l.depth

abbrev pub decreases-parse_if : goal.decreases-parse_if
decreases-parse_if l = 6 * l.depth

abbrev pub decreases-parse_command_by : goal.decreases-parse_command_by
decreases-parse_command_by l = 6 * l.depth + 1

abbrev pub decreases-parse_command : goal.decreases-parse_command
decreases-parse_command l = 6 * l.depth + 2

abbrev pub decreases-parse_commands : goal.decreases-parse_commands
decreases-parse_commands l = 6 * l.depth + 3

abbrev pub decreases-parse_else : goal.decreases-parse_else
decreases-parse_else l = 6 * l.depth + 3

abbrev pub decreases-parse_part : goal.decreases-parse_part
decreases-parse_part l = 6 * l.depth + 4

abbrev pub decreases-parse_parts : goal.decreases-parse_parts
decreases-parse_parts l = 6 * l.depth + 5

abbrev pub invariant-parse_commands-loop-alloc : goal.invariant-parse_commands-loop-alloc
invariant-parse_commands-loop-alloc l = record {
  goes : Goes (command_at l.depth) (map view_command l.commands.items) (remaining l.rest) (commands_with (command_at l.depth) (remaining l.input));
  grown : Grown command_kept [] l.commands.items l.input l.rest;
  within : Follows l.input l.rest;
  shorter : length (remaining l.rest) ≤ length (remaining l.input);
}

abbrev pub decreases-parse_commands-loop-alloc : goal.decreases-parse_commands-loop-alloc
decreases-parse_commands-loop-alloc l = length (remaining l.rest)

abbrev pub invariant-parse_parts-loop-alloc : goal.invariant-parse_parts-loop-alloc
invariant-parse_parts-loop-alloc l = record {
  goes : GoesOn (commands_with (command_at l.depth)) l.is_first (map view_part l.parts.items) (remaining l.rest)
      (parts_with (commands_with (command_at l.depth)) (remaining l.input));
  grown : Grown part_kept [] l.parts.items l.input l.rest;
  within : Follows l.input l.rest;
  shorter : length (remaining l.rest) ≤ length (remaining l.input);
}

abbrev pub decreases-parse_parts-loop-alloc : goal.decreases-parse_parts-loop-alloc
decreases-parse_parts-loop-alloc l = length (remaining l.rest)
