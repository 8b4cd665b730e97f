use Rattle.expression_parser.proofs.Placing.{spans_both, unkept}
use Rattle.expression_parser.proofs.range_reader.parse_range_up.Goals as goal

pub returns-in-Some-clause-placed : goal.returns-in-Some-clause-placed
returns-in-Some-clause-placed c = λ start first. spans_both first (unkept c.in_ok-high.ensures.placed)
