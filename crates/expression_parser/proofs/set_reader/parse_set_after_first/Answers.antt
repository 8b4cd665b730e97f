use Rattle.std.proofs.Common.{map, rules}
use Rattle.expression_parser.specs.Steps.{remaining}
use Rattle.filter_syntax.specs.Syntax.{view_set_pattern}
use Rattle.expression_parser.proofs.Chains.{set_after_none}
use Rattle.expression_parser.proofs.Within.{failed, unread}
use Rattle.expression_parser.proofs.Placing.{set_grown}
use Rattle.expression_parser.proofs.set_reader.parse_set_after_first.Goals as goal

pub returns-in_ok-rest-in-Ok : goal.returns-in_ok-rest-in-Ok
returns-in_ok-rest-in-Ok c = record {
  reads = search rules;
  shorter = search rules;
  placed = λ start front.
      set_grown c.args.at c.args.first _ c.in-Ok.patterns.items (search rules) c.in-Ok.ensures.placed c.in_ok-rest-in-Ok.ensures.placed front;
  within = search rules;
}

pub returns-in_err-rest-in-Ok : goal.returns-in_err-rest-in-Ok
returns-in_err-rest-in-Ok c = record {
  reads = unread _ _ c.from_residual-in_err-rest-in-Ok.result _ c.from_residual-in_err-rest-in-Ok.ensures
      (λ other. set_after_none (view_set_pattern c.args.first) (map view_set_pattern c.push.new.self.items) (remaining c.args.input) (search rules) c.in-Ok.ensures.reads (c.in_err-rest-in-Ok.ensures.reads other));
  shorter = search rules;
  placed = search rules;
  within = λ len start. failed _ len _ c.from_residual-in_err-rest-in-Ok.result c.from_residual-in_err-rest-in-Ok.ensures
      (c.in_err-rest-in-Ok.ensures.within len (c.in-Ok.ensures.within len start));
}
