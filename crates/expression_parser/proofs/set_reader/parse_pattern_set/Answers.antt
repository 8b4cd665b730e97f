use Rattle.std.proofs.Common.{rules}
use Rattle.expression_parser.proofs.Placing.{ok_map, spans_both}
use Rattle.expression_parser.proofs.set_reader.parse_pattern_set.Goals as goal

pub returns-in-Ok : goal.returns-in-Ok
returns-in-Ok c = record {
  reads = search rules;
  shorter = search rules;
  placed = ok_map c.parse_set_after_first.result (λ x h start first. h start (spans_both first c.in-Ok.ensures.placed)) c.parse_set_after_first.ensures.placed;
  within = λ len start. c.parse_set_after_first.ensures.within len (c.in-Ok.ensures.within len start);
}
