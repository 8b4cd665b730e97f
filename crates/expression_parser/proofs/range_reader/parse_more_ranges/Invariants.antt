-- The loop has read these ranges, and will answer what the reading function does.
use Rattle.std.proofs.Common.{◌≤◌, length, map}
use Rattle.expression_parser.specs.Reading.{adds_range, more_ranges}
use Rattle.filter_syntax.specs.Placed.{next_range_kept}
use Rattle.expression_parser.specs.Steps.{Follows, Grown, remaining}
use Rattle.filter_syntax.specs.Syntax.{view_range}
use Rattle.expression_parser.proofs.Turns.{Goes}
use Rattle.expression_parser.proofs.range_reader.parse_more_ranges.Given as goal

abbrev pub invariant-loop-after : goal.invariant-loop-after
invariant-loop-after l = record {
  goes : Goes adds_range (map view_range l.all.items) (remaining l.rest) (more_ranges (map view_range l.fn.ranges.items) (remaining l.fn.input));
  grown : Grown next_range_kept l.fn.ranges.items l.all.items l.fn.input l.rest;
  within : Follows l.fn.input l.rest;
  shorter : length (remaining l.rest) ≤ length (remaining l.fn.input);
}

abbrev pub decreases-loop-after : goal.decreases-loop-after
decreases-loop-after l = length (remaining l.rest)
