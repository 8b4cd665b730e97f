use Rattle.std.proofs.Common.{rules}
use Rattle.expression_parser.proofs.Placing.{spans_as, spans_both, unkept}
use Rattle.expression_parser.proofs.expr.parse_group_end.Goals as goal

pub returns-in_ok-group-in-Ok : goal.returns-in_ok-group-in-Ok
returns-in_ok-group-in-Ok c = record {
  reads = search rules;
  shorter = search rules;
  placed = λ start first.
      spans_as c.in_ok-group-in-Ok.ensures.placed (spans_both first (unkept c.in-Ok.ensures.placed));
  within = search rules;
}
