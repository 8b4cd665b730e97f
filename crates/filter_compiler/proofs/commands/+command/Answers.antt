use Rattle.std.proofs.Common.{◌≡◌, ℕ, ◌+◌, [], ◌∷◌, append_assoc, map, ap, sym, subst, ◌∙◌, arith, rules}
use Rattle.std.proofs.lemmas.Grind.{common_steps}
use Rattle.std.proofs.lemmas.List.{nil_from_length}
use Rattle.std.specs.Prelude.{flat_map}
use Rattle.filter_code.specs.declared.instruction.Instr.TheVariants as instr
use Rattle.filter_syntax.specs.Syntax.{view, view_range}
use Rattle.filter_syntax.specs.SyntaxCommands.{CommandView, PartsView, assign, case, commands_of, if_else, if_then}
use Rattle.filter_syntax.specs.SyntaxCommands.{no_commands, parts_of, view_command, view_part, view_target}
use Rattle.filter_syntax.specs.SyntaxText.{view_filter}
use Rattle.filter_syntax.specs.declared.tree.command.Command.{Command}
use Rattle.filter_syntax.specs.declared.tree.command.Command.TheVariants as command
use Rattle.filter_syntax.specs.declared.tree.command.Label.TheVariants as label
use Rattle.filter_syntax.proofs.Views.{view_case, view_if, view_if_else}
use Rattle.filter_compiler.specs.InstructionPlaces.{command_places, expression_places, label_place, opening_places}
use Rattle.filter_compiler.specs.InstructionPlaces.{part_of, part_places, parts_places}
use Rattle.filter_compiler.specs.SetOrder.{past}
use Rattle.filter_compiler.specs.Translation.{commands_code, expression_code, sets_of}
use Rattle.filter_compiler.specs.Written.{Emits, command_part, parts_part}
use Rattle.filter_compiler.proofs.CommandPlaces.{assign_at, block_at, case_at, if_at, if_else_at, ranges_places, same_labelled}
use Rattle.filter_compiler.proofs.Cases.{else_emits, labelled_case, opened_case, part_emits, ranges_emits}
use Rattle.filter_compiler.proofs.EmittedParts.{no_parts_emit, viewed}
use Rattle.filter_compiler.proofs.Jumps.{over}
use Rattle.filter_compiler.proofs.Notes.{as_noted, next_notes, patch_notes, then_notes}
use Rattle.filter_compiler.proofs.Puts.{then, then_code}
use Rattle.filter_compiler.proofs.Trees.{command_next}
use Rattle.filter_compiler.proofs.Views.{view_assign}
use Rattle.filter_compiler.proofs.Weights.{one_weight}
use Rattle.filter_compiler.proofs.commands.+command.Goals as goal

pub emit_command-returns-in-None-clause-code : goal.emit_command-returns-in-None-clause-code
emit_command-returns-in-None-clause-code t c =
    let d = (view_filter c.args.typed.now).decls in
    let test = view c.in-If.test in
    let chosen = view_command c.deref-in-If.result.now in
    let is : view_command c.args.command.now ≡ if_then test chosen =
    ap view_command (c.in-If.is ∙ ap (command.If c.in-If.at c.in-If.test c.in-If.chosen) c.in-None.is)
    ∙ view_if c.in-If.at c.in-If.test c.in-If.chosen ∙ ap (λ (x : Command). if_then test (view_command x)) (sym c.deref-in-If.ensures) in
    let jumped = over instr.JumpIfNot c.put.ensures.code c.emit_command-next.ensures.code c.distance-distance.ensures.value c.patch.ensures in
    subst (λ (x : CommandView). Emits c.args.out.now c.patch.new.self c.args.sets c.emit_command-next.result (command_part d x)) (sym is) (then c.emit-tested.ensures.code jumped)

pub emit_command-returns-in-Some-clause-code : goal.emit_command-returns-in-Some-clause-code
emit_command-returns-in-Some-clause-code t c =
    let d = (view_filter c.args.typed.now).decls in
    let test = view c.in-If.test in
    let chosen = view_command c.deref-in-If.result.now in
    let other = view_command c.deref-in-Some.result.now in
    let is : view_command c.args.command.now ≡ if_else test chosen other =
    ap view_command (c.in-If.is ∙ ap (command.If c.in-If.at c.in-If.test c.in-If.chosen) c.in-Some.is)
    ∙ view_if_else c.in-If.at c.in-If.test c.in-If.chosen c.in-Some.other
    ∙ ap (λ (x : Command). if_else test (view_command x) (view_command c.in-Some.other.value)) (sym c.deref-in-If.ensures)
    ∙ ap (λ (x : Command). if_else test chosen (view_command x)) (sym c.deref-in-Some.ensures) in
    let over_chosen = over (λ (n : ℕ). instr.JumpIfNot (n + 1)) c.put.ensures.code c.emit_command-next.ensures.code c.distance-distance.ensures.value
    c.patch-in-Some.ensures in
    let over_other = over instr.Jump c.put-in-Some.ensures.code c.emit_command-last.ensures.code c.distance-distance-in-Some.ensures.value
    c.patch-in-Some-2.ensures in
    subst (λ (x : CommandView). Emits c.args.out.now c.patch-in-Some-2.new.self c.args.sets c.emit_command-last.result (command_part d x)) (sym is)
    (then c.emit-tested.ensures.code (then over_chosen over_other))

pub emit_command-returns-in-Assign-clause-code : goal.emit_command-returns-in-Assign-clause-code
emit_command-returns-in-Assign-clause-code t c =
    let d = (view_filter c.args.typed.now).decls in
    let is : view_command c.args.command.now ≡ assign (view_target c.in-Assign.target) (view c.in-Assign.value) =
    ap view_command c.in-Assign.is ∙ view_assign c.in-Assign.at c.in-Assign.target c.in-Assign.value in
    subst (λ (x : CommandView). Emits c.args.out.now c.emit_target.new.out c.args.sets c.emit-next.result (command_part d x)) (sym is)
    (then_code c.emit-next.ensures.code c.emit_target.ensures.code)

pub emit_commands-loop-command-preserved : goal.emit_commands-loop-command-preserved
emit_commands-loop-command-preserved t c = (
  command_next (view_filter c.args.typed.now).decls c.args.out.now c.loop-command.out c.emit_command-next.new.out c.args.sets c.loop-command.next
      c.emit_command-next.result c.args.commands.now
      c.loop-command.command-index c.command-item.result c.loop-command-test.true c.command-item.is c.loop-command.invariant.0
      c.emit_command-next.ensures.code,
  next_notes command_places c.args.commands.now c.loop-command.command-index c.command-item.result c.loop-command-test.true c.command-item.is c.loop-command.invariant.1 c.emit_command-next.ensures.places,
)

pub emit_command-returns-in-Block-clause-places : goal.emit_command-returns-in-Block-clause-places
emit_command-returns-in-Block-clause-places t c =
    as_noted
    (sym (block_at c.args.command.now c.in-Block.field-0 c.in-Block.body c.deref.result.now c.in-Block.is c.deref.ensures.value))
    c.emit_commands.ensures.places

pub emit_command-returns-in-None-clause-places : goal.emit_command-returns-in-None-clause-places
emit_command-returns-in-None-clause-places t c =
    as_noted
    (sym (if_at c.args.command.now c.in-If.at c.in-If.test c.in-If.chosen c.in-If.other c.deref-in-If.result.now c.in-If.is c.in-None.is
    c.deref-in-If.ensures))
    (patch_notes _ _ (then_notes c.emit-tested.ensures.places (then_notes c.put.ensures.places c.emit_command-next.ensures.places)) c.patch.ensures)

pub emit_command-returns-in-Some-clause-places : goal.emit_command-returns-in-Some-clause-places
emit_command-returns-in-Some-clause-places t c =
    let chosen = patch_notes _ _ (then_notes c.emit-tested.ensures.places (then_notes c.put.ensures.places c.emit_command-next.ensures.places))
    c.patch-in-Some.ensures in
    let other = patch_notes _ _ (then_notes c.put-in-Some.ensures.places c.emit_command-last.ensures.places) c.patch-in-Some-2.ensures in
    as_noted
    (sym (if_else_at c.args.command.now c.in-If.at c.in-If.test c.in-If.chosen c.in-If.other c.in-Some.other c.deref-in-If.result.now
    c.deref-in-Some.result.now c.in-If.is c.in-Some.is c.deref-in-If.ensures c.deref-in-Some.ensures))
    (then_notes chosen other)

pub emit_command-returns-in-Assign-clause-places : goal.emit_command-returns-in-Assign-clause-places
emit_command-returns-in-Assign-clause-places t c =
    as_noted
    (sym (assign_at c.args.command.now c.in-Assign.at c.in-Assign.target c.in-Assign.value c.in-Assign.is))
    (then_notes c.emit-next.ensures.places c.emit_target.ensures.places)

pub emit_command-returns-in-Case-clause-code : goal.emit_command-returns-in-Case-clause-code
emit_command-returns-in-Case-clause-code t c =
    let d = (view_filter c.args.typed.now).decls in
    let is : view_command c.args.command.now ≡ case (view c.in-Case.argument) (parts_of (map view_part c.in-Case.parts.items)) =
    ap view_command c.in-Case.is ∙ view_case c.in-Case.at c.in-Case.argument c.in-Case.parts in
    subst (λ (x : CommandView). Emits c.args.out.now c.emit_case.new.out c.args.sets c.emit_case.result (command_part d x)) (sym is)
    (subst (λ l. Emits c.args.out.now c.emit_case.new.out c.args.sets c.emit_case.result
    (command_part d (case (view c.in-Case.argument) (parts_of (map view_part l))))) c.deref-in-Case.ensures.value c.emit_case.ensures.code)

pub emit_command-returns-in-Case-clause-places : goal.emit_command-returns-in-Case-clause-places
emit_command-returns-in-Case-clause-places t c =
    as_noted
    (sym (case_at c.args.command.now c.in-Case.at c.in-Case.argument c.in-Case.parts c.deref-in-Case.result.now c.in-Case.is
    c.deref-in-Case.ensures.value))
    c.emit_case.ensures.places

pub emit_part-returns-clause-code : goal.emit_part-returns-clause-code
emit_part-returns-clause-code t c = λ n ranges counted.
    let d = (view_filter c.args.typed.now).decls in
    let rest = over (λ (i : ℕ). instr.JumpIfNot (i + 1)) c.put.ensures.code c.emit_commands-next.ensures.code c.distance-distance.ensures.value
    c.patch.ensures in
    part_emits d (expression_code d n (view c.args.argument.now)) ranges (commands_of (map view_command c.args.commands.now))
    (λ m is. c.emit_question.ensures.code n m counted is) (λ m is. c.after_ints.ensures m ranges is) rest

pub emit_part-returns-clause-places : goal.emit_part-returns-clause-places
emit_part-returns-clause-places t c =
    as_noted (append_assoc (expression_places c.args.argument.now) (c.args.at ∷ []) (c.args.at ∷ flat_map command_places c.args.commands.now))
    (patch_notes _ _ (then_notes c.emit_question.ensures.places (then_notes c.put.ensures.places c.emit_commands-next.ensures.places))
    c.patch.ensures)

pub emit_case-returns-then-has_labelled-clause-code : goal.emit_case-returns-then-has_labelled-clause-code
emit_case-returns-then-has_labelled-clause-code t c =
    let d = (view_filter c.args.typed.now).decls in
    let argument = view c.args.argument.now in
    labelled_case d argument (parts_of (map view_part c.args.parts.now)) c.after_expr-first.ensures
    (sym c.has_labelled.ensures ∙ c.if-has_labelled.true)
    (λ n counted. c.emit_parts.ensures.code n (past n (sets_of argument)) counted (c.after_expr-first.ensures n counted))

pub emit_case-returns-then-has_labelled-clause-places : goal.emit_case-returns-then-has_labelled-clause-places
emit_case-returns-then-has_labelled-clause-places t c =
    let e = expression_places c.args.argument.now in
    let parts = map part_of c.args.parts.now in
    as_noted
    (ap (λ b. opening_places b c.args.at e (parts_places c.args.at e [] parts))
    (sym (same_labelled c.args.parts.now ∙ (sym c.has_labelled.ensures ∙ c.if-has_labelled.true))))
    c.emit_parts.ensures.places

pub emit_case-returns-clause-code : goal.emit_case-returns-clause-code
emit_case-returns-clause-code t c =
    let d = (view_filter c.args.typed.now).decls in
    let argument = view c.args.argument.now in
    let parts = parts_of (map view_part c.args.parts.now) in
    opened_case d argument parts c.after_expr-first.ensures (sym c.has_labelled.ensures ∙ c.if-has_labelled.false)
    (λ n counted.
    let m = past n (sets_of argument) in
    let e = expression_code d n argument in
    ranges_emits d e [] [] no_commands parts (c.emit_part-next.ensures.code n [] counted)
    (over instr.Jump c.put.ensures.code (c.emit_parts-last.ensures.code n m counted (c.after_expr-first.ensures n counted))
    c.distance-distance.ensures.value c.patch.ensures))

pub emit_case-returns-clause-places : goal.emit_case-returns-clause-places
emit_case-returns-clause-places t c =
    let e = expression_places c.args.argument.now in
    let parts = map part_of c.args.parts.now in
    as_noted
    (ap (λ b. opening_places b c.args.at e (parts_places c.args.at e [] parts))
    (sym (same_labelled c.args.parts.now ∙ (sym c.has_labelled.ensures ∙ c.if-has_labelled.false))))
    (then_notes c.emit_part-next.ensures.places
    (patch_notes _ _ (then_notes c.put.ensures.places c.emit_parts-last.ensures.places) c.patch.ensures))

pub emit_commands-emit_command-next-requires : goal.emit_commands-emit_command-next-requires
emit_commands-emit_command-next-requires t c =
    let low = one_weight c.args.commands.now c.loop-command.command-index c.command-item.result c.loop-command-test.true c.command-item.is in
    (omega (arith, low, c.decreases), tt)

pub emit_parts-returns-in_default-clause-code : goal.emit_parts-returns-in_default-clause-code
emit_parts-returns-in_default-clause-code t c = λ n m counted other.
    let d = (view_filter c.args.typed.now).decls in
    let none : c.args.parts.now ≡ [] = nil_from_length c.args.parts.now (first_of (search rules, grind (arith, common_steps))) in
    no_parts_emit d (expression_code d n (view c.args.argument.now)) (commands_of (map view_command c.args.other.now)) m c.args.parts.now none
    other c.emit_commands.ensures.code

pub emit_parts-returns-in-Else-clause-code : goal.emit_parts-returns-in-Else-clause-code
emit_parts-returns-in-Else-clause-code t c = λ n m counted other.
    let d = (view_filter c.args.typed.now).decls in
    let e = expression_code d n (view c.args.argument.now) in
    let o = commands_code d m (commands_of (map view_command c.args.other.now)) in
    let parts_are : c.args.parts.now ≡ c.in-Some.part.now ∷ c.in-Some.more.now = first_of (search rules, cc) in
    let is = viewed c.args.parts.now c.in-Some.part.now (label.Else c.in-Else.field-0) c.deref.result.now c.in-Some.more.now parts_are
    c.in-Else.is c.deref.ensures.value in
    subst (λ (ps : PartsView). Emits c.args.out.now c.emit_parts.new.out c.args.sets c.emit_parts.result (parts_part d e o ps)) (sym is)
    (else_emits d e o (commands_of (map view_command c.deref.result.now)) (parts_of (map view_part c.in-Some.more.now))
    c.after_commands-next.ensures
    (λ x first.
    subst (λ cs. Emits c.args.out.now c.emit_parts.new.out c.after_commands-next.result c.emit_parts.result
    (parts_part d e (commands_code d x (commands_of (map view_command cs))) (parts_of (map view_part c.in-Some.more.now))))
    (c.deref-in-Else.ensures.value ∙ sym c.deref.ensures.value) (c.emit_parts.ensures.code n x counted first)))

pub emit_parts-returns-else-from-gt-INSTRUCTION_LIMIT-clause-code : goal.emit_parts-returns-else-from-gt-INSTRUCTION_LIMIT-clause-code
emit_parts-returns-else-from-gt-INSTRUCTION_LIMIT-clause-code t c = λ n m counted other.
    let d = (view_filter c.args.typed.now).decls in
    let e = expression_code d n (view c.args.argument.now) in
    let o = commands_code d m (commands_of (map view_command c.args.other.now)) in
    let ranges = map view_range c.in-Ranges.ranges.items in
    let body = c.deref-in-Ranges-2.result.now in
    let parts_are : c.args.parts.now ≡ c.in-Some.part.now ∷ c.in-Some.more.now = first_of (search rules, cc) in
    let is = viewed c.args.parts.now c.in-Some.part.now (label.Ranges c.in-Ranges.ranges) body c.in-Some.more.now parts_are c.in-Ranges.is
    c.deref-in-Ranges-2.ensures.value in
    subst (λ (ps : PartsView). Emits c.args.out.now c.patch.new.self c.args.sets c.emit_parts-last.result (parts_part d e o ps)) (sym is)
    (ranges_emits d e o ranges (commands_of (map view_command body)) (parts_of (map view_part c.in-Some.more.now))
    (c.emit_part-next.ensures.code n ranges counted)
    (over instr.Jump c.put.ensures.code (c.emit_parts-last.ensures.code n m counted other) c.distance-distance.ensures.value c.patch.ensures))

pub emit_parts-returns-else-from-gt-INSTRUCTION_LIMIT-clause-places : goal.emit_parts-returns-else-from-gt-INSTRUCTION_LIMIT-clause-places
emit_parts-returns-else-from-gt-INSTRUCTION_LIMIT-clause-places t c =
    let at = c.args.at in
    let e = expression_places c.args.argument.now in
    let other = flat_map command_places c.args.other.now in
    let body = c.deref-in-Ranges-2.result.now in
    let ranges = c.in-Ranges.ranges in
    let more = map part_of c.in-Some.more.now in
    let rest = parts_places at e other more in
    let parts_are : c.args.parts.now ≡ c.in-Some.part.now ∷ c.in-Some.more.now = first_of (search rules, cc) in
    as_noted
    (ap (λ p. part_places e p (flat_map command_places body) rest) (c.label_place-place.ensures ∙ ap (label_place at) c.deref-in-Ranges.ensures.value)
    ∙ (ap (λ cs. part_places e (label_place at ranges.items) (flat_map command_places cs) rest) c.deref-in-Ranges-2.ensures.value
    ∙ (sym (ranges_places at e other c.in-Some.part.now ranges more c.in-Ranges.is)
    ∙ ap (λ ps. parts_places at e other (map part_of ps)) (sym parts_are))))
    (then_notes c.emit_part-next.ensures.places
    (patch_notes _ _ (then_notes c.put.ensures.places c.emit_parts-last.ensures.places) c.patch.ensures))
