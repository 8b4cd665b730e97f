use Rattle.std.proofs.Common.{refl, ◌∙◌, ◌∷◌, [], None, Some, List, ap, map, sym, append_assoc, arith, rules}
use Rattle.std.specs.Prelude.{Vec}
use Rattle.std.specs.declared.alloc.Global.{Global}
use Rattle.filter_syntax.specs.declared.tree.command.Command.{Command}
use Rattle.filter_syntax.specs.declared.tree.command.Label.{Label}
use Rattle.filter_syntax.specs.Placed.{Kept, expr_kept, joined}
use Rattle.filter_syntax.specs.Placed.{command_kept, label_kept, part_kept}
use Rattle.filter_parser.specs.ReadingCommands.{command_at, commands_with}
use Rattle.expression_parser.specs.Steps.{remaining}
use Rattle.filter_syntax.specs.SyntaxCommands.{view_command, view_part}
use Rattle.filter_parser.proofs.Bodies.{begins, case_is, goes_on, map_one, stops, ends}
use Rattle.filter_parser.proofs.CaseParts as parts
use Rattle.expression_parser.proofs.Placing.{grown_more, grown_none, ok_map, spans_as, spans_both, unkept}
use Rattle.filter_syntax.proofs.Placing.{kept_block, kept_case}
use Rattle.filter_syntax.proofs.Views.{view_case}
use Rattle.expression_parser.proofs.Within.{failed}
use Rattle.filter_parser.proofs.command.+command.Goals as goal

pub parse_commands-loop-alloc-init : goal.parse_commands-loop-alloc-init
parse_commands-loop-alloc-init t c = record {
  goes = rw c.new-commands.ensures.items (begins (command_at c.args.depth) (remaining c.args.input));
  grown = rw c.new-commands.ensures.items grown_none;
  within = λ len start. start;
  shorter = omega arith;
}

pub parse_commands-loop-alloc-preserved : goal.parse_commands-loop-alloc-preserved
parse_commands-loop-alloc-preserved t c = record {
  goes = rw (c.in_ok-push-in-Ok.ensures.items, map_one view_command c.loop-alloc.commands.items c.in-Ok.command)
      (goes_on c.loop-alloc.invariant.goes (search rules) c.in-Ok.ensures.reads c.in-Ok.ensures.shorter);
  grown = grown_more c.loop-alloc.invariant.grown c.in-Ok.ensures.placed c.in_ok-push-in-Ok.ensures.items;
  within = λ len start. c.in-Ok.ensures.within len (c.loop-alloc.invariant.within len start);
  shorter = omega (arith, c.in-Ok.ensures.shorter);
}

pub parse_block-returns-clause-placed : goal.parse_block-returns-clause-placed
parse_block-returns-clause-placed t c = λ start first.
    spans_as (kept_block c.args.at c.in_ok-commands.commands)
    (spans_both first (spans_both c.in_ok-commands.ensures.placed (unkept c.in_ok-rest.ensures.placed)))

pub parse_if-returns-clause-placed : goal.parse_if-returns-clause-placed
parse_if-returns-clause-placed t c =
    ok_map c.parse_else.result
    (λ x h start first. h start (spans_both first (spans_both c.in_ok-test.ensures.placed
    (spans_both (unkept c.in_ok-rest.ensures.placed) c.in_ok-chosen.ensures.placed))))
    c.parse_else.ensures.placed

pub parse_if-returns-in_err-rest-clause-within : goal.parse_if-returns-in_err-rest-clause-within
parse_if-returns-in_err-rest-clause-within t c = λ len after start.
    failed _ len _ c.from_residual-in_err-rest.result c.from_residual-in_err-rest.ensures
    (c.in_err-rest.ensures.within len (c.in_ok-test.ensures.within len start))

pub parse_if-returns-in_err-chosen-clause-within : goal.parse_if-returns-in_err-chosen-clause-within
parse_if-returns-in_err-chosen-clause-within t c = λ len after start.
    failed _ len _ c.from_residual-in_err-chosen.result c.from_residual-in_err-chosen.ensures
    (c.in_err-chosen.ensures.within len (c.in_ok-rest.ensures.within len (c.in_ok-test.ensures.within len start)))

pub parse_if-returns-clause-within : goal.parse_if-returns-clause-within
parse_if-returns-clause-within t c = λ len after start.
    c.parse_else.ensures.within len (c.in_ok-chosen.ensures.within len
    (c.in_ok-rest.ensures.within len (c.in_ok-test.ensures.within len start)))

pub parse_commands-returns-clause-reads : goal.parse_commands-returns-clause-reads
parse_commands-returns-clause-reads t c = ends c.loop-alloc.invariant.goes (search rules)

pub parse_commands-returns-clause-placed : goal.parse_commands-returns-clause-placed
parse_commands-returns-clause-placed t c =
    let g = c.loop-alloc.invariant.grown in spans_as (ap (λ (xs : List Command). joined (map command_kept xs)) g.whole) g.spans

pub parse_commands-returns-in-Err-clause-reads : goal.parse_commands-returns-in-Err-clause-reads
parse_commands-returns-in-Err-clause-reads t c = λ other. stops c.loop-alloc.invariant.goes (search rules) (c.in-Err.ensures.reads other)

pub parse_commands-returns-in-Err-clause-within : goal.parse_commands-returns-in-Err-clause-within
parse_commands-returns-in-Err-clause-within t c = λ len start. c.in-Err.ensures.within len (c.loop-alloc.invariant.within len start)

pub parse_part-returns : goal.parse_part-returns
parse_part-returns t c = record {
  reads = search rules;
  shorter = search rules;
  placed =
      spans_as (sym (append_assoc (label_kept c.in_ok-label.label) (None ∷ []) (joined (map command_kept c.in_ok-commands.commands.items))))
      (spans_both c.in_ok-label.ensures.placed c.in_ok-commands.ensures.placed);
  within = λ len start. c.in_ok-commands.ensures.within len (c.in_ok-label.ensures.within len start);
}

pub parse_part-returns-in_err-commands : goal.parse_part-returns-in_err-commands
parse_part-returns-in_err-commands t c = record {
  reads = search rules;
  shorter = search rules;
  placed = search rules;
  within = λ len start. failed _ len _ c.from_residual-in_err-commands.result c.from_residual-in_err-commands.ensures
      (c.in_err-commands.ensures.within len (c.in_ok-label.ensures.within len start));
}

pub parse_parts-loop-alloc-init : goal.parse_parts-loop-alloc-init
parse_parts-loop-alloc-init t c = record {
  goes = rw c.new-parts.ensures.items (parts.begins (commands_with (command_at c.args.depth)) (remaining c.args.input));
  grown = rw c.new-parts.ensures.items grown_none;
  within = λ len start. start;
  shorter = omega arith;
}

pub parse_parts-loop-alloc-preserved : goal.parse_parts-loop-alloc-preserved
parse_parts-loop-alloc-preserved t c = record {
  goes = rw (c.in_ok-push-in-Ok.ensures.items, map_one view_part c.loop-alloc.parts.items c.in-Ok.part, c.stays_first-is_first.ensures)
      (parts.goes_on c.loop-alloc.invariant.goes (search rules) c.in-Ok.ensures.reads c.in-Ok.ensures.shorter);
  grown = grown_more c.loop-alloc.invariant.grown c.in-Ok.ensures.placed c.in_ok-push-in-Ok.ensures.items;
  within = λ len start. c.in-Ok.ensures.within len (c.loop-alloc.invariant.within len start);
  shorter = omega (arith, c.in-Ok.ensures.shorter);
}

pub parse_parts-returns-clause-reads : goal.parse_parts-returns-clause-reads
parse_parts-returns-clause-reads t c = parts.ends c.loop-alloc.invariant.goes (search rules)

pub parse_parts-returns-clause-placed : goal.parse_parts-returns-clause-placed
parse_parts-returns-clause-placed t c =
    let g = c.loop-alloc.invariant.grown in
    spans_as (ap (λ (xs : List (Label × Vec Command Global)). joined (map part_kept xs)) g.whole) g.spans

pub parse_parts-returns-in-Err-clause-reads : goal.parse_parts-returns-in-Err-clause-reads
parse_parts-returns-in-Err-clause-reads t c = λ other. parts.stops c.loop-alloc.invariant.goes (search rules) (c.in-Err.ensures.reads other)

pub parse_parts-returns-in-Err-clause-within : goal.parse_parts-returns-in-Err-clause-within
parse_parts-returns-in-Err-clause-within t c = λ len start. c.in-Err.ensures.within len (c.loop-alloc.invariant.within len start)

pub parse_case-returns-clause-reads : goal.parse_case-returns-clause-reads
parse_case-returns-clause-reads t c =
    rw (
      view_case c.args.at c.in_ok-argument.argument c.in_ok-parts.parts,
      case_is c.args.depth (remaining c.args.input) (omega arith),
      c.in_ok-argument.ensures.reads,
      c.in_ok-rest.ensures.reads,
      c.in_ok-parts.ensures.reads,
      c.in_ok-rest-2.ensures.reads,
    ) refl

pub parse_case-returns-clause-placed : goal.parse_case-returns-clause-placed
parse_case-returns-clause-placed t c = λ start first.
    spans_as (kept_case c.args.at c.in_ok-argument.argument c.in_ok-parts.parts)
    (spans_both first (spans_both c.in_ok-argument.ensures.placed (spans_both (unkept c.in_ok-rest.ensures.placed)
    (spans_both c.in_ok-parts.ensures.placed (unkept c.in_ok-rest-2.ensures.placed)))))

pub parse_case-returns-in_err-argument-clause-within : goal.parse_case-returns-in_err-argument-clause-within
parse_case-returns-in_err-argument-clause-within t c = λ len after start.
    failed _ len _ c.from_residual.result c.from_residual.ensures (c.in_err-argument.ensures.within len start)

pub parse_case-returns-in_err-rest-clause-within : goal.parse_case-returns-in_err-rest-clause-within
parse_case-returns-in_err-rest-clause-within t c = λ len after start.
    failed _ len _ c.from_residual-in_err-rest.result c.from_residual-in_err-rest.ensures
    (c.in_err-rest.ensures.within len (c.in_ok-argument.ensures.within len start))

pub parse_case-returns-in_err-parts-clause-within : goal.parse_case-returns-in_err-parts-clause-within
parse_case-returns-in_err-parts-clause-within t c = λ len after start.
    failed _ len _ c.from_residual-in_err-parts.result c.from_residual-in_err-parts.ensures
    (c.in_err-parts.ensures.within len (c.in_ok-rest.ensures.within len (c.in_ok-argument.ensures.within len start)))

pub parse_case-returns-in_err-rest-2-clause-within : goal.parse_case-returns-in_err-rest-2-clause-within
parse_case-returns-in_err-rest-2-clause-within t c = λ len after start.
    failed _ len _ c.from_residual-in_err-rest-2.result c.from_residual-in_err-rest-2.ensures
    (c.in_err-rest-2.ensures.within len (c.in_ok-parts.ensures.within len (c.in_ok-rest.ensures.within len
    (c.in_ok-argument.ensures.within len start))))

pub parse_case-returns-clause-within : goal.parse_case-returns-clause-within
parse_case-returns-clause-within t c = λ len after start.
    c.in_ok-rest-2.ensures.within len (c.in_ok-parts.ensures.within len (c.in_ok-rest.ensures.within len
    (c.in_ok-argument.ensures.within len start)))

pub parse_block-returns-in_err-rest-clause-within : goal.parse_block-returns-in_err-rest-clause-within
parse_block-returns-in_err-rest-clause-within t c = λ len after start.
    failed _ len _ c.from_residual-in_err-rest.result c.from_residual-in_err-rest.ensures
    (c.in_err-rest.ensures.within len (c.in_ok-commands.ensures.within len start))

pub parse_else-returns-in_ok-if_else_command-in-Some : goal.parse_else-returns-in_ok-if_else_command-in-Some
parse_else-returns-in_ok-if_else_command-in-Some t c = record {
  reads = search rules;
  shorter = search rules;
  placed = λ start first.
      let chosen = command_kept c.args.chosen in
      let other = command_kept c.in_ok-other-in-Some.other in
      spans_as (c.in_ok-if_else_command-in-Some.ensures.placed
      ∙ ap (λ (k : Kept). Some c.args.at ∷ k) (sym (append_assoc (expr_kept c.args.test) (None ∷ chosen) (None ∷ other))))
      (spans_both first (spans_both (unkept c.in-Some.ensures.placed) c.in_ok-other-in-Some.ensures.placed));
  within = λ len start. c.in_ok-other-in-Some.ensures.within len (c.in-Some.ensures.within len start);
}

pub parse_block-returns-in_err-commands-clause-within : goal.parse_block-returns-in_err-commands-clause-within
parse_block-returns-in_err-commands-clause-within t c = λ len after start.
    failed _ len _ c.from_residual.result c.from_residual.ensures (c.in_err-commands.ensures.within len start)

pub parse_block-returns-clause-within : goal.parse_block-returns-clause-within
parse_block-returns-clause-within t c = λ len after start. c.in_ok-rest.ensures.within len (c.in_ok-commands.ensures.within len start)

pub parse_else-returns-in_err-other-in-Some : goal.parse_else-returns-in_err-other-in-Some
parse_else-returns-in_err-other-in-Some t c = record {
  reads = search rules;
  shorter = search rules;
  placed = search rules;
  within = λ len start. failed _ len _ c.from_residual-in_err-other-in-Some.result c.from_residual-in_err-other-in-Some.ensures
      (c.in_err-other-in-Some.ensures.within len (c.in-Some.ensures.within len start));
}

pub parse_if-returns-in_err-test-clause-within : goal.parse_if-returns-in_err-test-clause-within
parse_if-returns-in_err-test-clause-within t c = λ len after start.
    failed _ len _ c.from_residual.result c.from_residual.ensures (c.in_err-test.ensures.within len start)
