use Rattle.std.proofs.Common.{refl, rules}
use Rattle.expression_parser.proofs.Placing.{spans_as, spans_both, unkept}
use Rattle.filter_syntax.proofs.Placing.{kept_assign}
use Rattle.filter_syntax.proofs.Views.{view_assigned}
use Rattle.expression_parser.proofs.Within.{failed}
use Rattle.filter_parser.proofs.command.parse_assignment.Goals as goal

pub returns-in_err-rest : goal.returns-in_err-rest
returns-in_err-rest c = record {
  reads = search rules;
  shorter = search rules;
  placed = search rules;
  within = λ len start.
      failed _ len _ c.from_residual-in_err-rest.result c.from_residual-in_err-rest.ensures
      (c.in_err-rest.ensures.within len (c.in_ok-value-2.ensures.within len (c.in_ok-value.ensures.within len start)));
}

pub returns : goal.returns
returns c = record {
  reads = rw (
    view_assigned c.args.at c.args.target c.in_ok-value-2.value,
    c.in_ok-value.ensures.reads,
    c.in_ok-value-2.ensures.reads,
    c.in_ok-rest.ensures.reads,
  ) refl;
  shorter = search rules;
  placed = λ start first.
      spans_as (kept_assign c.args.at c.args.target c.in_ok-value-2.value)
      (spans_both first
      (spans_both (unkept c.in_ok-value.ensures.placed) (spans_both c.in_ok-value-2.ensures.placed (unkept c.in_ok-rest.ensures.placed))));
  within = λ len start.
      c.in_ok-rest.ensures.within len (c.in_ok-value-2.ensures.within len (c.in_ok-value.ensures.within len start));
}
