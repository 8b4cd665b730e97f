use Rattle.std.proofs.Common.{rules}
use Rattle.expression_parser.proofs.Placing.{spans_both, unkept}
use Rattle.filter_parser.proofs.decl.parse_declaration.Goals as goal

pub returns : goal.returns
returns c = record {
  reads = search rules;
  shorter = search rules;
  placed = λ start first. spans_both first (spans_both c.in_ok-at.ensures.placed (unkept c.in_ok-rest.ensures.placed));
  within = search rules;
}
