use Rattle.expression_parser.proofs.Placing.{spans_both, unkept}
use Rattle.expression_parser.proofs.Within.{failed}
use Rattle.expression_parser.proofs.set_reader.parse_range_set.Goals as goal

pub returns-in_ok-rest-in-Ok-clause-placed : goal.returns-in_ok-rest-in-Ok-clause-placed
returns-in_ok-rest-in-Ok-clause-placed c = λ start middle bracket first.
    spans_both bracket (spans_both (c.in-Ok.ensures.placed middle first) (unkept c.in_ok-rest-in-Ok.ensures.placed))

pub returns-in_ok-rest-in-Ok-clause-within : goal.returns-in_ok-rest-in-Ok-clause-within
returns-in_ok-rest-in-Ok-clause-within c = λ len after start. c.in_ok-rest-in-Ok.ensures.within len (c.in-Ok.ensures.within len after start)

pub returns-in_err-rest-in-Ok-clause-within : goal.returns-in_err-rest-in-Ok-clause-within
returns-in_err-rest-in-Ok-clause-within c = λ len after start.
    failed _ len _ c.from_residual.result c.from_residual.ensures
    (c.in_err-rest-in-Ok.ensures.within len (c.in-Ok.ensures.within len after start))
