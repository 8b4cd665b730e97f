-- The loop has made the operand with the suffixes so far, and will answer what the reading function does.
use Rattle.std.proofs.Common.{◌≡◌, ◌≤◌, [], length}
use Rattle.expression_parser.specs.Reading.{suffixes, suffixes_from}
use Rattle.filter_syntax.specs.Placed.{suffix_kept}
use Rattle.expression_parser.specs.Steps.{Follows, Grown, remaining}
use Rattle.filter_syntax.specs.Syntax.{suffixes_of, view}
use Rattle.expression_parser.proofs.Turns.{Goes}
use Rattle.expression_parser.proofs.expr_atom.parse_dotted.Given as goal

abbrev pub invariant-loop-after : goal.invariant-loop-after
invariant-loop-after l = record {
  goes : Goes suffixes (suffixes_of (view l.fn.inner) l.all.items) (remaining l.rest) (suffixes_from (view l.fn.inner) (remaining l.fn.input));
  kept : l.inner ≡ l.fn.inner;
  grown : Grown suffix_kept [] l.all.items l.fn.input l.rest;
  within : Follows l.fn.input l.rest;
  shorter : length (remaining l.rest) ≤ length (remaining l.fn.input);
}

abbrev pub decreases-loop-after : goal.decreases-loop-after
decreases-loop-after l = length (remaining l.rest)
