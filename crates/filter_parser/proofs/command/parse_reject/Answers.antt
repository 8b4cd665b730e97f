use Rattle.std.proofs.Common.{refl, rules}
use Rattle.filter_syntax.proofs.Views.{view_rejected}
use Rattle.expression_parser.proofs.Placing.{spans_as, spans_both}
use Rattle.filter_syntax.proofs.Placing.{kept_reject}
use Rattle.filter_parser.proofs.command.parse_reject.Goals as goal

pub returns : goal.returns
returns c = record {
  reads = rw (view_rejected c.args.at c.in_ok-has_text.has_text, c.in_ok-has_text.ensures.reads) refl;
  shorter = search rules;
  placed = λ start first.
      spans_as (kept_reject c.args.at c.in_ok-has_text.has_text) (spans_both first c.in_ok-has_text.ensures.placed);
  within = λ len start. c.in_ok-has_text.ensures.within len start;
}
