-- How deep each function may go, and what the loops have made.
use Rattle.std.proofs.Common.{◌≡◌, ◌≤◌, ◌+◌, ◌-◌, ◌*◌, ◌∷◌, ℕ, None, [], length}
use Rattle.expression_parser.specs.Levels.{least, most, rest_with, strength}
use Rattle.filter_syntax.specs.Placed.{expr_kept}
use Rattle.expression_parser.specs.Readers.{turns}
use Rattle.expression_parser.specs.Reading.{joins, unary_at, next_with}
use Rattle.expression_parser.specs.Steps.{Continues, Follows, Grown, remaining}
use Rattle.filter_syntax.specs.Syntax.{ExprView, chain_of, view, view_more}
use Rattle.expression_parser.proofs.Placing.{right_kept}
use Rattle.expression_parser.proofs.Turns.{Goes}
use Rattle.expression_parser.proofs.expr.+expr.Given as goal

-- a function of a greater number calls those of lesser ones at the same depth
abbrev pub decreases-parse_primary : goal.decreases-parse_primary
decreases-parse_primary l = 60 * l.depth

abbrev pub decreases-parse_postfix : goal.decreases-parse_postfix
decreases-parse_postfix l = 60 * l.depth + 1

abbrev pub decreases-parse_unary : goal.decreases-parse_unary
decreases-parse_unary l = 60 * l.depth + 2

abbrev pub decreases-parse_rest : goal.decreases-parse_rest
decreases-parse_rest l = 60 * l.depth + 10 * (4 - least l.outer) + 4

abbrev pub decreases-parse_operand : goal.decreases-parse_operand
decreases-parse_operand l = 60 * l.depth + 10 * (4 - least l.outer) + 5

abbrev pub decreases-parse_more_operators : goal.decreases-parse_more_operators
decreases-parse_more_operators l = 60 * l.depth + 10 * (4 - strength l.level) + 6

abbrev pub decreases-parse_operators : goal.decreases-parse_operators
decreases-parse_operators l = 60 * l.depth + 10 * (4 - strength l.level) + 7

abbrev pub decreases-parse_right_operand : goal.decreases-parse_right_operand
decreases-parse_right_operand l = 60 * l.depth + 27

abbrev pub decreases-parse_comparison : goal.decreases-parse_comparison
decreases-parse_comparison l = 60 * l.depth + 28

abbrev pub decreases-parse_join : goal.decreases-parse_join
decreases-parse_join l = 60 * l.depth + 38

abbrev pub decreases-parse_level : goal.decreases-parse_level
decreases-parse_level l = 60 * l.depth + 10 * (4 - strength l.level) + 9

-- the depth is that after a `!` or a `(`
abbrev pub decreases-parse_negation : goal.decreases-parse_negation
decreases-parse_negation l = 60 * l.depth + 50

abbrev pub decreases-parse_group : goal.decreases-parse_group
decreases-parse_group l = 60 * l.depth + 50

abbrev pub invariant-parse_rest-loop-level : goal.invariant-parse_rest-loop-level
invariant-parse_rest-loop-level l = record {
  same : rest_with (unary_at l.depth) l.outer l.inner (view l.whole) (remaining l.rest)
      ≡ rest_with (unary_at l.depth) l.outer None (view l.fn.first) (remaining l.input);
  shorter : length (remaining l.rest) ≤ length (remaining l.input);
  placed : Continues (expr_kept l.fn.first) (expr_kept l.whole) l.input l.rest;
  within : Follows l.input l.rest;
}

abbrev pub decreases-parse_rest-loop-level : goal.decreases-parse_rest-loop-level
decreases-parse_rest-loop-level l = most l.inner

abbrev pub invariant-parse_more_operators-loop-op : goal.invariant-parse_more_operators-loop-op
invariant-parse_more_operators-loop-op l = record {
  goes : (count : ℕ) → length (remaining l.input) ≤ count → Goes (joins (next_with (unary_at l.depth) l.level) l.level)
      (chain_of (view l.first) (view_more l.more.items))
      (remaining l.rest)
      (turns (joins (next_with (unary_at l.depth) l.level) l.level) count
      (ExprView.binary l.fn.parts.value.2 (view l.fn.parts.value.0) (view l.fn.parts.value.3)) (remaining l.input));
  kept : l.first ≡ l.fn.parts.value.0;
  grown : Grown right_kept ((l.fn.parts.value.1, l.fn.parts.value.2, l.fn.parts.value.3) ∷ []) l.more.items l.input l.rest;
  within : Follows l.input l.rest;
  shorter : length (remaining l.rest) ≤ length (remaining l.input);
}

abbrev pub decreases-parse_more_operators-loop-op : goal.decreases-parse_more_operators-loop-op
decreases-parse_more_operators-loop-op l = length (remaining l.rest)
