use Rattle.std.proofs.Common.{rules}
use Rattle.expression_parser.proofs.Placing.{ok_map, spans_both, unkept}
use Rattle.expression_parser.proofs.set_reader.parse_lengths.Goals as goal

pub returns-in-Some : goal.returns-in-Some
returns-in-Some c = record {
  reads = search rules;
  shorter = search rules;
  placed = λ start first. spans_both first (unkept c.in-Some.ensures.placed);
  within = search rules;
}

pub returns-in-Some-eat : goal.returns-in-Some-eat
returns-in-Some-eat c = record {
  reads = search rules;
  shorter = search rules;
  placed = λ start first. spans_both first (unkept c.in-Some-eat.ensures.placed);
  within = search rules;
}

pub returns-in-Some-eat-2 : goal.returns-in-Some-eat-2
returns-in-Some-eat-2 c = record {
  reads = search rules;
  shorter = search rules;
  placed = ok_map c.parse_braces.result (λ x h start first. h start (spans_both first (unkept c.in-Some-eat-2.ensures.placed))) c.parse_braces.ensures.placed;
  within = search rules;
}
