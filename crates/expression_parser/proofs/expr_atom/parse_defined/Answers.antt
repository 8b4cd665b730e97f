use Rattle.std.proofs.Common.{refl, rules}
use Rattle.expression_parser.proofs.Placing.{kept_defined, spans_as, spans_both, unkept}
use Rattle.filter_syntax.proofs.Views.{view_defined}
use Rattle.expression_parser.proofs.Within.{failed}
use Rattle.expression_parser.proofs.expr_atom.parse_defined.Goals as goal

pub returns-in_err-rest-2 : goal.returns-in_err-rest-2
returns-in_err-rest-2 c = record {
  reads = search rules;
  shorter = search rules;
  placed = search rules;
  within = λ len start.
      failed _ len _ c.from_residual-in_err-rest-2.result c.from_residual-in_err-rest-2.ensures
      (c.in_err-rest-2.ensures.within len (c.in_ok-found.ensures.within len (c.in_ok-rest.ensures.within len start)));
}

pub returns : goal.returns
returns c = record {
  reads = rw (view_defined c.args.at c.in_ok-found.found, c.in_ok-rest.ensures.reads, c.in_ok-found.ensures.reads, c.in_ok-rest-2.ensures.reads) refl;
  shorter = search rules;
  placed = λ start first.
      spans_as (kept_defined c.args.at c.in_ok-found.found)
      (spans_both first
      (spans_both (unkept c.in_ok-rest.ensures.placed) (spans_both (unkept c.in_ok-found.ensures.placed) (unkept c.in_ok-rest-2.ensures.placed))));
  within = λ len start. c.in_ok-rest-2.ensures.within len (c.in_ok-found.ensures.within len (c.in_ok-rest.ensures.within len start));
}
