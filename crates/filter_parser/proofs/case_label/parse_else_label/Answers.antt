use Rattle.std.proofs.Common.{rules}
use Rattle.expression_parser.proofs.Placing.{spans_at, spans_both, unkept}
use Rattle.filter_parser.proofs.case_label.parse_else_label.Goals as goal

pub returns : goal.returns
returns c = record {
  reads = search rules;
  shorter = search rules;
  placed = spans_both (spans_at c.at.ensures c.in_ok-rest.ensures.placed) (unkept c.in_ok-rest-2.ensures.placed);
  within = search rules;
}
