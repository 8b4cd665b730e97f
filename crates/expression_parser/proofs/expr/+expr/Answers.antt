use Rattle.std.proofs.Common.{◌≡◌, ℕ, zero, suc, None, refl, ◌-◌, ◌∙◌, ◌∷◌, [], Some, List, sym, append_assoc, arith, rules}
use Rattle.filter_syntax.specs.Placed.{expr_kept}
use Rattle.filter_tokens.specs.Lexemes.{Lexeme}
use Rattle.filter_tokens.specs.declared.symbol.Symbol.TheVariants as symbols
use Rattle.expression_parser.specs.Readers.{symbol}
use Rattle.expression_parser.specs.Reading.{an_operator, expr_at, inner_at, joins, unary_at, next_with, postfix_with, read_of, sum_with}
use Rattle.expression_parser.specs.Steps.{remaining}
use Rattle.filter_syntax.specs.Syntax.{ExprView, view}
use Rattle.expression_parser.proofs.Chains.{more_one, right_none, chain_on, chain_ends, chain_stops}
use Rattle.expression_parser.proofs.Placing.{grown_more, ok_map, spans_as, spans_at, spans_both, unkept_last}
use Rattle.expression_parser.proofs.Turns.{starts}
use Rattle.filter_syntax.proofs.Views.{chain_more}
use Rattle.expression_parser.proofs.Chains.{group_read, join_read, more_read}
use Rattle.expression_parser.proofs.Levels.{kept_binary, more_kept, operand_none, operand_read, rest_ends, rest_on, rest_stops, view_binary}
use Rattle.expression_parser.proofs.Within.{failed, unread}
use Rattle.expression_parser.proofs.expr.+expr.Goals as goal

pub parse_operand-returns-in_err-first : goal.parse_operand-returns-in_err-first
parse_operand-returns-in_err-first t c = record {
  reads = unread read_of _ c.from_residual.result _ c.from_residual.ensures
      (λ other. operand_none (unary_at c.args.depth) c.args.outer (remaining c.args.input) (c.in_err-first.ensures.reads other));
  shorter = search rules;
  placed = search rules;
  within = λ len start. failed _ len _ c.from_residual.result c.from_residual.ensures (c.in_err-first.ensures.within len start);
}

pub parse_operand-returns : goal.parse_operand-returns
parse_operand-returns t c = record {
  reads = rw (operand_read (unary_at c.args.depth) c.args.outer (remaining c.args.input) (view c.in_ok-first.first, remaining c.in_ok-first.rest)
      c.in_ok-first.ensures.reads) c.parse_rest.ensures.reads;
  shorter = ok_map c.parse_rest.result (λ x h. omega (arith, h, c.in_ok-first.ensures.shorter)) c.parse_rest.ensures.shorter;
  placed = ok_map c.parse_rest.result (λ x h. h c.args.input c.in_ok-first.ensures.placed) c.parse_rest.ensures.placed;
  within = λ len start. c.parse_rest.ensures.within len (c.in_ok-first.ensures.within len start);
}

pub parse_rest-loop-level-preserved : goal.parse_rest-loop-level-preserved
parse_rest-loop-level-preserved t c = record {
  same = sym (rest_on (unary_at c.args.depth) c.args.outer c.loop-level.inner c.in-Some.level (view c.loop-level.whole) (remaining c.loop-level.rest)
      (view c.in-Ok.more, remaining c.in-Ok.next) c.in-Some.ensures.0 c.in-Some.ensures.1 c.in-Ok.ensures.reads) ∙ c.loop-level.invariant.same;
  shorter = omega (arith, c.in-Ok.ensures.shorter, c.loop-level.invariant.shorter);
  placed = λ start first. c.in-Ok.ensures.placed start (c.loop-level.invariant.placed start first);
  within = λ len start. c.in-Ok.ensures.within len (c.loop-level.invariant.within len start);
}

pub parse_rest-returns-in-Err : goal.parse_rest-returns-in-Err
parse_rest-returns-in-Err t c = record {
  reads = λ other. sym c.loop-level.invariant.same
      ∙ rest_stops (unary_at c.args.depth) c.args.outer c.loop-level.inner c.in-Some.level (view c.loop-level.whole) (remaining c.loop-level.rest)
      c.in-Some.ensures.0 c.in-Some.ensures.1 (c.in-Err.ensures.reads other);
  shorter = search rules;
  placed = search rules;
  within = λ len start. c.in-Err.ensures.within len (c.loop-level.invariant.within len start);
}

pub parse_rest-returns : goal.parse_rest-returns
parse_rest-returns t c = record {
  reads = sym c.loop-level.invariant.same
      ∙ rest_ends (unary_at c.args.depth) c.args.outer c.loop-level.inner (view c.loop-level.whole) (remaining c.loop-level.rest) c.in_default.ensures;
  shorter = omega (arith, c.loop-level.invariant.shorter);
  placed = c.loop-level.invariant.placed;
  within = c.loop-level.invariant.within;
}

pub parse_join-returns-in_err-whole : goal.parse_join-returns-in_err-whole
parse_join-returns-in_err-whole t c = record {
  reads = unread read_of _ c.from_residual.result _ c.from_residual.ensures
      (λ other. rw (c.in_err-whole.ensures.reads other)
      at (join_read (unary_at c.args.depth) c.join_level.result (view c.args.first) (remaining c.args.input) c.join_level.ensures));
  shorter = search rules;
  placed = search rules;
  within = λ len start. failed _ len _ c.from_residual.result c.from_residual.ensures (c.in_err-whole.ensures.within len start);
}

pub parse_join-returns : goal.parse_join-returns
parse_join-returns t c = record {
  reads = rw (
    join_read (unary_at c.args.depth) c.join_level.result (view c.args.first) (remaining c.args.input) c.join_level.ensures,
    c.in_ok-whole.ensures.reads,
  ) c.unmixed.ensures.reads;
  shorter = ok_map c.unmixed.result (λ x h. omega (arith, h, c.in_ok-whole.ensures.shorter)) c.unmixed.ensures.shorter;
  placed = ok_map c.unmixed.result (λ x h start first. h start (c.in_ok-whole.ensures.placed start first)) c.unmixed.ensures.placed;
  within = λ len start. c.unmixed.ensures.within len (c.in_ok-whole.ensures.within len start);
}

pub parse_comparison-returns-in-Some : goal.parse_comparison-returns-in-Some
parse_comparison-returns-in-Some t c = record {
  reads = search rules;
  shorter = ok_map c.parse_right_operand.result (λ x h. omega (arith, h, c.in-Some.ensures.shorter)) c.parse_right_operand.ensures.shorter;
  placed = ok_map c.parse_right_operand.result
      (λ x h start first. h start (spans_both first (spans_at c.at.ensures c.in-Some.ensures.placed)))
      c.parse_right_operand.ensures.placed;
  within = λ len start. c.parse_right_operand.ensures.within len (c.in-Some.ensures.within len start);
}

pub parse_operators-returns-in_err-right : goal.parse_operators-returns-in_err-right
parse_operators-returns-in_err-right t c =
    let next = next_with (unary_at c.args.depth) c.args.level in
    record {
      reads = unread read_of _ c.from_residual.result _ c.from_residual.ensures
          (λ other. chain_stops next c.args.level c.in-Some.ensures.found (c.in_err-right.ensures.reads other)
          (starts (joins next c.args.level) (view c.args.first) (remaining c.args.input)));
      shorter = search rules;
      placed = search rules;
      within = λ len start. failed _ len _ c.from_residual.result c.from_residual.ensures
          (c.in_err-right.ensures.within len (c.in-Some.ensures.within len start));
    }

-- one operator alone
pub parse_operators-returns-then-is_none : goal.parse_operators-returns-then-is_none
parse_operators-returns-then-is_none t c =
    let next = next_with (unary_at c.args.depth) c.args.level in
    let none : an_operator c.args.level (remaining c.in_ok-right.rest) ≡ None = search rules in
    let parts = c.in_ok-parts.parts in
    record {
      reads = rw (view_binary parts, c.in_ok-parts.ensures.ok) (chain_ends next c.args.level none
          (chain_on next c.args.level c.in-Some.ensures.found c.in_ok-right.ensures.reads
          (omega (arith, c.in_ok-right.ensures.shorter, c.in-Some.ensures.shorter))
          (starts (joins next c.args.level) (view c.args.first) (remaining c.args.input))));
      shorter = omega (arith, c.in_ok-right.ensures.shorter, c.in-Some.ensures.shorter);
      placed = λ start first. rw (kept_binary parts, c.in_ok-parts.ensures.ok)
          (spans_both first (spans_both (spans_at c.at.ensures c.in-Some.ensures.placed) c.in_ok-right.ensures.placed));
      within = λ len start. c.in_ok-right.ensures.within len (c.in-Some.ensures.within len start);
    }

-- more than one
pub parse_operators-returns : goal.parse_operators-returns
parse_operators-returns t c =
    let next = next_with (unary_at c.args.depth) c.args.level in
    record {
      reads = more_read c.parse_more_operators.result (joins next c.args.level)
          (ExprView.binary c.in-Some.op (view c.args.first) (view c.in_ok-right.right)) (remaining c.in_ok-right.rest) _
          (chain_on next c.args.level c.in-Some.ensures.found c.in_ok-right.ensures.reads
          (omega (arith, c.in_ok-right.ensures.shorter, c.in-Some.ensures.shorter))
          (starts (joins next c.args.level) (view c.args.first) (remaining c.args.input)))
          (rw c.in_ok-parts.ensures.ok at c.parse_more_operators.ensures.reads);
      shorter = ok_map c.parse_more_operators.result
          (λ x h. omega (arith, h, c.in_ok-right.ensures.shorter, c.in-Some.ensures.shorter)) c.parse_more_operators.ensures.shorter;
      placed = ok_map c.parse_more_operators.result
          (λ x h start first. h start (rw c.in_ok-parts.ensures.ok
          (spans_both first (spans_both (spans_at c.at.ensures c.in-Some.ensures.placed) c.in_ok-right.ensures.placed))))
          c.parse_more_operators.ensures.placed;
      within = λ len start.
          c.parse_more_operators.ensures.within len (c.in_ok-right.ensures.within len (c.in-Some.ensures.within len start));
    }

pub parse_more_operators-loop-op-preserved : goal.parse_more_operators-loop-op-preserved
parse_more_operators-loop-op-preserved t c = record {
  goes = λ count enough.
      rw (c.in_ok-push-in-Ok.ensures.items, more_one c.loop-op.more.items c.at.result c.in-Some.op c.in-Ok.right, chain_more)
      (chain_on (next_with (unary_at c.args.depth) c.args.level) c.args.level c.in-Some.ensures.found c.in-Ok.ensures.reads
      (omega (arith, c.in-Ok.ensures.shorter, c.in-Some.ensures.shorter)) (c.loop-op.invariant.goes count enough));
  kept = c.loop-op.invariant.kept;
  grown = grown_more c.loop-op.invariant.grown (spans_both (spans_at c.at.ensures c.in-Some.ensures.placed) c.in-Ok.ensures.placed)
      c.in_ok-push-in-Ok.ensures.items;
  within = λ len start. c.in-Ok.ensures.within len (c.in-Some.ensures.within len (c.loop-op.invariant.within len start));
  shorter = omega (arith, c.in-Ok.ensures.shorter, c.in-Some.ensures.shorter, c.loop-op.invariant.shorter);
}

pub parse_more_operators-returns-in-Err-clause-reads : goal.parse_more_operators-returns-in-Err-clause-reads
parse_more_operators-returns-in-Err-clause-reads t c = λ count enough other.
    chain_stops (next_with (unary_at c.args.depth) c.args.level) c.args.level c.in-Some.ensures.found
    (c.in-Err.ensures.reads other) (c.loop-op.invariant.goes count enough)

pub parse_more_operators-returns-in-Err-clause-within : goal.parse_more_operators-returns-in-Err-clause-within
parse_more_operators-returns-in-Err-clause-within t c = λ len start.
    c.in-Err.ensures.within len (c.in-Some.ensures.within len (c.loop-op.invariant.within len start))

pub parse_more_operators-returns-clause-reads : goal.parse_more_operators-returns-clause-reads
parse_more_operators-returns-clause-reads t c = λ count enough. rw (c.in_ok-chain.ensures.is)
    (chain_ends (next_with (unary_at c.args.depth) c.args.level) c.args.level c.in_default.ensures.found (c.loop-op.invariant.goes count enough))

pub parse_more_operators-returns-clause-placed : goal.parse_more_operators-returns-clause-placed
parse_more_operators-returns-clause-placed t c = λ start first.
    let g = c.loop-op.invariant.grown in
    spans_as (c.in_ok-chain.ensures.placed ∙ more_kept _ c.args.parts.value g.more c.loop-op.more.items c.loop-op.invariant.kept g.whole)
    (spans_both first g.spans)

pub parse_negation-returns : goal.parse_negation-returns
parse_negation-returns t c =
    let inner : unary_at c.args.depth (remaining c.args.input) ≡ Some (view c.in_ok-inner.inner, remaining c.in_ok-inner.rest) =
    c.in_ok-inner.ensures.reads in
    record {
      reads = rw (inner, c.in_ok-negation.ensures.is) refl;
      shorter = omega (arith, c.in_ok-inner.ensures.shorter);
      placed = λ start first. spans_as c.in_ok-negation.ensures.placed (spans_both first c.in_ok-inner.ensures.placed);
      within = λ len start. c.in_ok-inner.ensures.within len start;
    }

pub parse_group-returns : goal.parse_group-returns
parse_group-returns t c =
    let inner : expr_at c.args.depth (remaining c.args.input) ≡ Some (view c.in_ok-inner.inner, remaining c.in_ok-inner.rest) =
    c.in_ok-inner.ensures.reads in
    record {
      reads = rw inner c.parse_group_end.ensures.reads;
      shorter = ok_map c.parse_group_end.result (λ x h. omega (arith, h, c.in_ok-inner.ensures.shorter)) c.parse_group_end.ensures.shorter;
      placed = ok_map c.parse_group_end.result (λ x h start first. h start (spans_both first c.in_ok-inner.ensures.placed))
          c.parse_group_end.ensures.placed;
      within = λ len start. c.parse_group_end.ensures.within len (c.in_ok-inner.ensures.within len start);
    }

pub parse_primary-returns : goal.parse_primary-returns
parse_primary-returns t c = record {
  reads = group_read c.parse_group.result c.args.depth (c.args.depth - 1) (remaining c.args.input) (remaining c.in-Some.after) (omega arith)
      c.in-Some.ensures.found c.parse_group.ensures.reads;
  shorter = ok_map c.parse_group.result (λ x h. omega (arith, h, c.in-Some.ensures.shorter)) c.parse_group.ensures.shorter;
  placed = ok_map c.parse_group.result (λ x h. h c.args.input (spans_at c.at-2.ensures c.in-Some.ensures.placed)) c.parse_group.ensures.placed;
  within = λ len start. c.parse_group.ensures.within len (c.in-Some.ensures.within len start);
}

-- an operand with no `!` before it
plain_is : (depth : ℕ) (ws : List Lexeme) → symbol symbols.Not ws ≡ None → unary_at depth ws ≡ postfix_with (inner_at depth) ws
unfolding unary_at
plain_is zero ws none = rw none refl
plain_is (suc depth) ws none = rw none refl

pub parse_unary-returns-in_default : goal.parse_unary-returns-in_default
parse_unary-returns-in_default t c = record {
  reads = rw (plain_is c.args.depth (remaining c.args.input) c.in_default.ensures.found) c.parse_postfix.ensures.reads;
  shorter = c.parse_postfix.ensures.shorter;
  placed = c.parse_postfix.ensures.placed;
  within = c.parse_postfix.ensures.within;
}

pub parse_postfix-returns : goal.parse_postfix-returns
parse_postfix-returns t c = record {
  reads = search rules;
  shorter = search rules;
  placed = search rules;
  within = λ len start.
      c.parse_suffixes.ensures.within len (c.in_ok-inner.ensures.within len start);
}

pub parse_right_operand-returns-in-Some : goal.parse_right_operand-returns-in-Some
parse_right_operand-returns-in-Some t c = record {
  reads = search rules;
  shorter = search rules;
  placed = ok_map c.parse_member.result
      (λ x h start first. h start c.args.input (unkept_last (expr_kept c.args.left) c.args.at first)
      (spans_at c.at.ensures c.in-Some.ensures.placed))
      c.parse_member.ensures.placed;
  within = λ len start.
      c.parse_member.ensures.within len (c.in-Some.ensures.within len start);
}

pub parse_right_operand-returns-in_ok-binary-in-Ok : goal.parse_right_operand-returns-in_ok-binary-in-Ok
parse_right_operand-returns-in_ok-binary-in-Ok t c = record {
  reads = search rules;
  shorter = search rules;
  placed = λ start first.
      spans_as (c.in_ok-binary-in-Ok.ensures.placed ∙ sym (append_assoc (expr_kept c.args.left) (Some c.args.at ∷ []) (expr_kept c.in-Ok.other)))
      (spans_both first c.in-Ok.ensures.placed);
  within = search rules;
}

pub parse_right_operand-returns-in-Err : goal.parse_right_operand-returns-in-Err
parse_right_operand-returns-in-Err t c = record {
  reads = λ other. right_none (sum_with (unary_at c.args.depth)) (view c.args.left) c.args.op (remaining c.args.input) c.in_default.ensures.found
      (c.in-Err.ensures.reads (λ e. other (c.right_operand_fault.ensures.memory e)));
  shorter = search rules;
  placed = search rules;
  within = λ len start.
      c.right_operand_fault.ensures.within len (c.in-Err.ensures.within len start);
}
