use Rattle.std.proofs.Common.{◌<◌, length, arith, rules}
use Rattle.expression_parser.specs.Steps.{remaining}
use Rattle.expression_parser.proofs.Placing.{spans_as, spans_both, unkept}
use Rattle.expression_parser.proofs.Within.{failed, first_within}
use Rattle.expression_parser.proofs.expr_atom.parse_mask.Goals as goal

pub returns-in_default : goal.returns-in_default
returns-in_default c = record {
  reads = search rules;
  shorter = search rules;
  placed = search rules;
  within = λ len start.
      let some : 0 < length (remaining c.in_ok-after.after) = omega (arith, c.in_ok-n.ensures.shorter) in
      rw c.at.ensures (first_within len c.in_ok-after.after (c.in_ok-after.ensures.within len start) some);
}

pub returns-in_err-rest : goal.returns-in_err-rest
returns-in_err-rest c = record {
  reads = search rules;
  shorter = search rules;
  placed = search rules;
  within = λ len start.
      failed _ len _ c.from_residual-in_err-rest.result c.from_residual-in_err-rest.ensures
      (c.in_err-rest.ensures.within len (c.in_ok-n.ensures.within len (c.in_ok-after.ensures.within len start)));
}

pub returns : goal.returns
returns c = record {
  reads = search rules;
  shorter = search rules;
  placed = λ start first.
      spans_as c.in-Some.ensures.kept
      (spans_both first
      (spans_both (unkept c.in_ok-after.ensures.placed) (spans_both (unkept c.in_ok-n.ensures.placed) (unkept c.in_ok-rest.ensures.placed))));
  within = search rules;
}
