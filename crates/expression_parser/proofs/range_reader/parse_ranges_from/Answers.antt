use Rattle.expression_parser.proofs.Placing.{ok_map}
use Rattle.expression_parser.proofs.range_reader.parse_ranges_from.Goals as goal

pub returns-in-Ok-clause-placed : goal.returns-in-Ok-clause-placed
returns-in-Ok-clause-placed c =
    ok_map c.parse_ranges_after.result (λ x h start front. h start (c.in-Ok.ensures.placed start front)) c.parse_ranges_after.ensures.placed

pub returns-in-Ok-clause-within : goal.returns-in-Ok-clause-within
returns-in-Ok-clause-within c = λ len after start. c.parse_ranges_after.ensures.within len (c.in-Ok.ensures.within len after start)
