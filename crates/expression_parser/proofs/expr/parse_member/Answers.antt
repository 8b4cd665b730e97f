use Rattle.std.proofs.Common.{◌∙◌, ◌∷◌, [], None, sym, append_assoc}
use Rattle.filter_syntax.specs.Placed.{expr_kept, set_kept}
use Rattle.expression_parser.proofs.Placing.{spans_as, spans_both}
use Rattle.expression_parser.proofs.expr.parse_member.Goals as goal

pub returns-clause-placed : goal.returns-clause-placed
returns-clause-placed c = λ start middle first bracket.
    spans_as (c.in_ok-member.ensures.placed ∙ sym (append_assoc (expr_kept c.args.left) (None ∷ []) (set_kept c.in_ok-found.found)))
    (spans_both first (c.in_ok-found.ensures.placed middle bracket))

pub returns-clause-within : goal.returns-clause-within
returns-clause-within c = λ len start. c.in_ok-found.ensures.within len start
