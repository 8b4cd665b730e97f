-- The loop has read these patterns, and will answer what the reading function does.
use Rattle.std.proofs.Common.{◌≤◌, length, map}
use Rattle.expression_parser.specs.Reading.{adds_set_pattern, set_patterns_from}
use Rattle.filter_syntax.specs.Placed.{next_pattern_kept}
use Rattle.expression_parser.specs.Steps.{Follows, Grown, remaining}
use Rattle.filter_syntax.specs.Syntax.{view_set_pattern}
use Rattle.expression_parser.proofs.Turns.{Goes}
use Rattle.expression_parser.proofs.set_reader.parse_set_patterns.Given as goal

abbrev pub invariant-loop-after : goal.invariant-loop-after
invariant-loop-after l = record {
  goes : Goes adds_set_pattern (map view_set_pattern l.all.items) (remaining l.rest) (set_patterns_from (map view_set_pattern l.fn.patterns.items) (remaining l.fn.input));
  grown : Grown next_pattern_kept l.fn.patterns.items l.all.items l.fn.input l.rest;
  within : Follows l.fn.input l.rest;
  shorter : length (remaining l.rest) ≤ length (remaining l.fn.input);
}

abbrev pub decreases-loop-after : goal.decreases-loop-after
decreases-loop-after l = length (remaining l.rest)
