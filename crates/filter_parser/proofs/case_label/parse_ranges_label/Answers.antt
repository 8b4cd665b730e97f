use Rattle.expression_parser.proofs.Placing.{spans_both, unkept}
use Rattle.expression_parser.proofs.Within.{failed}
use Rattle.filter_parser.proofs.case_label.parse_ranges_label.Goals as goal

pub returns-in_ok-rest-in-Ok-clause-placed : goal.returns-in_ok-rest-in-Ok-clause-placed
returns-in_ok-rest-in-Ok-clause-placed c = λ start first. spans_both (c.in-Ok.ensures.placed start first) (unkept c.in_ok-rest-in-Ok.ensures.placed)

pub returns-in_ok-rest-in-Ok-clause-within : goal.returns-in_ok-rest-in-Ok-clause-within
returns-in_ok-rest-in-Ok-clause-within c = λ len after start. c.in_ok-rest-in-Ok.ensures.within len (c.in-Ok.ensures.within len after start)

pub returns-in_err-rest-in-Ok-clause-within : goal.returns-in_err-rest-in-Ok-clause-within
returns-in_err-rest-in-Ok-clause-within c = λ len after start.
    failed _ len _ c.from_residual.result c.from_residual.ensures
    (c.in_err-rest-in-Ok.ensures.within len (c.in-Ok.ensures.within len after start))
