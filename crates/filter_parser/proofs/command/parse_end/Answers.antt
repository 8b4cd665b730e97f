use Rattle.std.proofs.Common.{rules}
use Rattle.expression_parser.proofs.Placing.{spans_both, unkept}
use Rattle.filter_parser.proofs.command.parse_end.Goals as goal

pub returns-in_ok-expect-in-Some : goal.returns-in_ok-expect-in-Some
returns-in_ok-expect-in-Some c = record {
  reads = search rules;
  shorter = search rules;
  placed = spans_both (unkept c.in-Some.ensures.placed) (unkept c.in_ok-expect-in-Some.ensures.placed);
  within = search rules;
}
