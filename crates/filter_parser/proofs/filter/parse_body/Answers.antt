use Rattle.expression_parser.proofs.Placing.{ok_map2, spans_both, unkept}
use Rattle.filter_parser.proofs.Placing.{all_placed}
use Rattle.expression_parser.proofs.Within.{failed}
use Rattle.filter_parser.proofs.filter.parse_body.Goals as goal

pub returns-clause-placed : goal.returns-clause-placed
returns-clause-placed c =
    ok_map2 c.nothing_after.result
    (λ parts same end start front. rw same (all_placed front c.in_ok-rest.ensures.placed c.in_ok-rest.ensures.reads c.in_ok-decls.ensures.placed
    (spans_both c.in_ok-body.ensures.placed (unkept c.in_ok-rest-2.ensures.placed)) end))
    c.nothing_after.ensures.same c.nothing_after.ensures.end

pub returns-in_err-rest-clause-within : goal.returns-in_err-rest-clause-within
returns-in_err-rest-clause-within c = λ len start.
    failed _ len _ c.from_residual.result c.from_residual.ensures
    (c.in_err-rest.ensures.within len start)

pub returns-in_err-body-clause-within : goal.returns-in_err-body-clause-within
returns-in_err-body-clause-within c = λ len start.
    failed _ len _ c.from_residual-in_err-body.result c.from_residual-in_err-body.ensures
    (c.in_err-body.ensures.within len (c.in_ok-decls.ensures.within len (c.in_ok-rest.ensures.within len start)))

pub returns-clause-within : goal.returns-clause-within
returns-clause-within c = λ len start.
    c.nothing_after.ensures.within len (c.in_ok-rest-2.ensures.within len (c.in_ok-body.ensures.within len
    (c.in_ok-decls.ensures.within len (c.in_ok-rest.ensures.within len start))))

pub returns-in_err-rest-2-clause-within : goal.returns-in_err-rest-2-clause-within
returns-in_err-rest-2-clause-within c = λ len start.
    failed _ len _ c.from_residual-in_err-rest-2.result c.from_residual-in_err-rest-2.ensures
    (c.in_err-rest-2.ensures.within len (c.in_ok-body.ensures.within len (c.in_ok-decls.ensures.within len
    (c.in_ok-rest.ensures.within len start))))
