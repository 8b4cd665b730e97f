use Rattle.std.proofs.Common.{◌<◌, length, arith, rules}
use Rattle.expression_parser.specs.Steps.{remaining}
use Rattle.expression_parser.proofs.Placing.{ok_map, spans_at}
use Rattle.expression_parser.proofs.Within.{first_within}
use Rattle.filter_parser.proofs.case_label.parse_label.Goals as goal

pub returns-in-Some : goal.returns-in-Some
returns-in-Some c = record {
  reads = search rules;
  shorter = search rules;
  placed = ok_map c.parse_ranges_label.result (λ x h. h c.args.input (spans_at c.at.ensures c.in-Some.ensures.placed)) c.parse_ranges_label.ensures.placed;
  within = λ len start.
      let some : 0 < length (remaining c.args.input) = omega (arith, c.in-Some.ensures.shorter) in
      c.parse_ranges_label.ensures.within len (rw c.at.ensures (first_within len c.args.input start some)) (c.in-Some.ensures.within len start);
}
