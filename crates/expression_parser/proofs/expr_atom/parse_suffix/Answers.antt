use Rattle.std.proofs.Common.{rules}
use Rattle.expression_parser.proofs.Placing.{ok_map, spans_both, unkept}
use Rattle.expression_parser.proofs.expr_atom.parse_suffix.Goals as goal

pub returns-in-Some : goal.returns-in-Some
returns-in-Some c = record {
  reads = search rules;
  shorter = search rules;
  placed = λ start first. spans_both first (unkept c.in-Some.ensures.placed);
  within = search rules;
}

pub returns-in-Some-eat_name : goal.returns-in-Some-eat_name
returns-in-Some-eat_name c = record {
  reads = search rules;
  shorter = search rules;
  placed = λ start first. spans_both first (unkept c.in-Some-eat_name.ensures.placed);
  within = search rules;
}

pub returns-in-Some-eat_name-2 : goal.returns-in-Some-eat_name-2
returns-in-Some-eat_name-2 c = record {
  reads = search rules;
  shorter = search rules;
  placed = ok_map c.parse_mask.result (λ x h start first. h start (spans_both first (unkept c.in-Some-eat_name-2.ensures.placed))) c.parse_mask.ensures.placed;
  within = search rules;
}
