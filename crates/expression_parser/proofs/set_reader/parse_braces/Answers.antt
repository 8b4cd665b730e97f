use Rattle.expression_parser.proofs.Placing.{spans_both, unkept}
use Rattle.expression_parser.proofs.Within.{failed}
use Rattle.expression_parser.proofs.set_reader.parse_braces.Goals as goal

pub returns-in-Some-clause-placed : goal.returns-in-Some-clause-placed
returns-in-Some-clause-placed c = λ start first.
    spans_both first (spans_both (unkept c.in_ok-low.ensures.placed) (spans_both (unkept c.in_ok-rest.ensures.placed)
    (spans_both (unkept c.in_ok-high.ensures.placed) (unkept c.in_ok-rest-2.ensures.placed))))

pub returns-in_err-high-clause-within : goal.returns-in_err-high-clause-within
returns-in_err-high-clause-within c = λ len after start.
    failed _ len _ c.from_residual-in_err-high.result c.from_residual-in_err-high.ensures
    (c.in_err-high.ensures.within len (c.in_ok-rest.ensures.within len (c.in_ok-low.ensures.within len start)))

pub returns-in_err-rest-2-clause-within : goal.returns-in_err-rest-2-clause-within
returns-in_err-rest-2-clause-within c = λ len after start.
    failed _ len _ c.from_residual-in_err-rest-2.result c.from_residual-in_err-rest-2.ensures
    (c.in_err-rest-2.ensures.within len (c.in_ok-high.ensures.within len
    (c.in_ok-rest.ensures.within len (c.in_ok-low.ensures.within len start))))

pub returns-in-Some-clause-within : goal.returns-in-Some-clause-within
returns-in-Some-clause-within c = λ len after start.
    c.in_ok-rest-2.ensures.within len (c.in_ok-high.ensures.within len
    (c.in_ok-rest.ensures.within len (c.in_ok-low.ensures.within len start)))
