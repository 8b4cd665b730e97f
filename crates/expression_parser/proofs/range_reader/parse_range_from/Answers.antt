use Rattle.expression_parser.proofs.Placing.{ok_map, spans_both, unkept}
use Rattle.expression_parser.proofs.range_reader.parse_range_from.Goals as goal

pub returns-in-Some-clause-placed : goal.returns-in-Some-clause-placed
returns-in-Some-clause-placed c =
    ok_map c.parse_range_up.result (λ x h start first. h start (spans_both first (unkept c.in-Some.ensures.placed))) c.parse_range_up.ensures.placed
