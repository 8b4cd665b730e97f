use Rattle.std.proofs.Common.{◌<◌, length, arith, rules}
use Rattle.expression_parser.specs.Steps.{remaining}
use Rattle.expression_parser.proofs.Placing.{ok_map, spans_at}
use Rattle.expression_parser.proofs.Within.{first_within}
use Rattle.expression_parser.proofs.set_reader.parse_set.Goals as goal

pub returns-in-Some : goal.returns-in-Some
returns-in-Some c = record {
  reads = search rules;
  shorter = search rules;
  placed = ok_map c.parse_range_set.result (λ x h start first. h start c.args.input first (spans_at c.at.ensures c.in-Some.ensures.placed)) c.parse_range_set.ensures.placed;
  within = λ len start.
      let some : 0 < length (remaining c.args.input) = omega (arith, c.in-Some.ensures.shorter) in
      c.parse_range_set.ensures.within len (rw c.at.ensures (first_within len c.args.input start some)) (c.in-Some.ensures.within len start);
}
