use Rattle.std.proofs.Common.{◌<◌, length, arith, rules}
use Rattle.expression_parser.specs.Steps.{remaining}
use Rattle.expression_parser.proofs.Placing.{ok_map, spans_at}
use Rattle.expression_parser.proofs.Within.{first_within}
use Rattle.expression_parser.proofs.range_reader.parse_range.Goals as goal

pub returns-in-Ok : goal.returns-in-Ok
returns-in-Ok c = record {
  reads = search rules;
  shorter = search rules;
  placed = ok_map c.parse_range_from.result (λ x h. h c.args.input (spans_at c.at.ensures c.in-Ok.ensures.placed)) c.parse_range_from.ensures.placed;
  within = λ len start.
      let some : 0 < length (remaining c.args.input) = omega (arith, c.in-Ok.ensures.shorter) in
      c.parse_range_from.ensures.within len (rw c.at.ensures (first_within len c.args.input start some)) (c.in-Ok.ensures.within len start);
}
