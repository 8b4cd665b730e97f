use Rattle.std.proofs.Common.{◌∙◌, ◌∷◌, ◌++◌, None, List, ap, map}
use Rattle.filter_syntax.specs.declared.tree.decl.Decl.{Decl}
use Rattle.filter_syntax.specs.Placed.{joined}
use Rattle.filter_syntax.specs.Placed.{decl_kept}
use Rattle.expression_parser.proofs.Placing.{ok_map, spans_as, spans_both, unkept}
use Rattle.expression_parser.proofs.Within.{failed}
use Rattle.filter_parser.proofs.filter.parse_filter.Goals as goal

pub returns-clause-placed : goal.returns-clause-placed
returns-clause-placed c =
    let g = c.in_ok-head.ensures.placed in
    let head = g.whole ∙ ap (λ (xs : List Decl). xs ++ g.more) c.new.ensures.items in
    ok_map c.parse_body.result
    (λ parts placed. placed c.args.input (spans_as (ap (λ (xs : List Decl). None ∷ None ∷ joined (map decl_kept xs)) head)
    (spans_both (unkept c.in_ok-rest.ensures.placed) (spans_both (unkept c.in_ok-name.ensures.placed) g.spans))))
    c.parse_body.ensures.placed

pub returns-in_err-head-clause-within : goal.returns-in_err-head-clause-within
returns-in_err-head-clause-within c = λ len start.
    failed _ len _ c.from_residual-in_err-head.result c.from_residual-in_err-head.ensures
    (c.in_err-head.ensures.within len (c.in_ok-name.ensures.within len (c.in_ok-rest.ensures.within len start)))

pub returns-clause-within : goal.returns-clause-within
returns-clause-within c = λ len start.
    c.parse_body.ensures.within len (c.in_ok-head.ensures.within len (c.in_ok-name.ensures.within len
    (c.in_ok-rest.ensures.within len start)))
