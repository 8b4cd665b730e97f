use Rattle.std.proofs.Common.{◌+◌, ◌∙◌, drop, map, refl, sym, ap}
use Rattle.filter_syntax.specs.SyntaxCommands.{commands_of, parts_of, view_command, view_part}
use Rattle.bird_import.specs.Unassigned.{assigns, assigns_in, assigns_in_parts, has_else}
use Rattle.bird_import.proofs.Unassigned.{and_here, and_next, none_left, one_left, or_here, or_next, view_case}
use Rattle.bird_import.proofs.unset.+assigning.Goals as goal

pub assigns_in-returns-then-assigns : goal.assigns_in-returns-then-assigns
assigns_in-returns-then-assigns t c =
    let v = c.args.variable.now in
    let xs = c.args.commands.now in
    let i = c.loop-command.command-index in
    let x = c.command-item.result in
    or_here (assigns v (view_command x)) (assigns_in v (commands_of (map view_command (drop (i + 1) xs)))) _
    (one_left view_command (λ ys. assigns_in v (commands_of ys)) xs i x _ c.loop-command-test.true c.command-item.is c.loop-command.invariant)
    (sym c.if-assigns.true ∙ c.assigns.ensures)

pub assigns_in-loop-command-preserved : goal.assigns_in-loop-command-preserved
assigns_in-loop-command-preserved t c =
    let v = c.args.variable.now in
    let xs = c.args.commands.now in
    let i = c.loop-command.command-index in
    let x = c.command-item.result in
    or_next (assigns v (view_command x)) (assigns_in v (commands_of (map view_command (drop (i + 1) xs)))) _
    (one_left view_command (λ ys. assigns_in v (commands_of ys)) xs i x _ c.loop-command-test.true c.command-item.is c.loop-command.invariant)
    (sym c.if-assigns.false ∙ c.assigns.ensures)

pub assigns_in-returns : goal.assigns_in-returns
assigns_in-returns t c =
    let v = c.args.variable.now in
    sym (none_left view_command (λ ys. assigns_in v (commands_of ys)) c.args.commands.now c.loop-command.command-index _ c.loop-command-test.false
    c.loop-command.invariant)

pub assigns_in_parts-returns-then-not-assigns_in : goal.assigns_in_parts-returns-then-not-assigns_in
assigns_in_parts-returns-then-not-assigns_in t c =
    let v = c.args.variable.now in
    let xs = c.args.parts.now in
    let i = c.loop-commands.commands-index in
    let x = c.loop-commands-item.result in
    and_here (assigns_in v (commands_of (map view_command x.1.items))) (assigns_in_parts v (parts_of (map view_part (drop (i + 1) xs)))) _
    (one_left view_part (λ ys. assigns_in_parts v (parts_of ys)) xs i x _ c.loop-commands-test.true c.loop-commands-item.is c.loop-commands.invariant)
    (sym c.if-not-assigns_in.true ∙ c.assigns_in.ensures ∙ ap (λ ys. assigns_in v (commands_of (map view_command ys))) c.deref.ensures.value)

pub assigns_in_parts-loop-commands-preserved : goal.assigns_in_parts-loop-commands-preserved
assigns_in_parts-loop-commands-preserved t c =
    let v = c.args.variable.now in
    let xs = c.args.parts.now in
    let i = c.loop-commands.commands-index in
    let x = c.loop-commands-item.result in
    and_next (assigns_in v (commands_of (map view_command x.1.items))) (assigns_in_parts v (parts_of (map view_part (drop (i + 1) xs)))) _
    (one_left view_part (λ ys. assigns_in_parts v (parts_of ys)) xs i x _ c.loop-commands-test.true c.loop-commands-item.is c.loop-commands.invariant)
    (sym c.if-not-assigns_in.false ∙ c.assigns_in.ensures ∙ ap (λ ys. assigns_in v (commands_of (map view_command ys))) c.deref.ensures.value)

pub assigns_in_parts-returns : goal.assigns_in_parts-returns
assigns_in_parts-returns t c =
    let v = c.args.variable.now in
    sym (none_left view_part (λ ys. assigns_in_parts v (parts_of ys)) c.args.parts.now c.loop-commands.commands-index _ c.loop-commands-test.false
    c.loop-commands.invariant)

pub assigns-returns-then-has_else : goal.assigns-returns-then-has_else
assigns-returns-then-has_else t c =
    let v = c.args.variable.now in
    let parts = parts_of (map view_part c.in-Case.parts.items) in
    c.assigns_in_parts.ensures ∙ ap (λ ys. assigns_in_parts v (parts_of (map view_part ys))) c.deref-then-has_else.ensures.value
    ∙ sym (and_next (has_else parts) (assigns_in_parts v parts) _
    (ap (assigns v) (view_case c.args.command.now c.in-Case.field-0 c.in-Case.field-1 c.in-Case.parts c.in-Case.parts.items c.in-Case.is refl))
    (sym c.if-has_else.true ∙ c.has_else.ensures ∙ ap (λ ys. has_else (parts_of (map view_part ys))) c.deref-in-Case.ensures.value))

pub assigns-returns-else-has_else : goal.assigns-returns-else-has_else
assigns-returns-else-has_else t c =
    let v = c.args.variable.now in
    let parts = parts_of (map view_part c.in-Case.parts.items) in
    c.if-has_else.false ∙ and_here (has_else parts) (assigns_in_parts v parts) _
    (ap (assigns v) (view_case c.args.command.now c.in-Case.field-0 c.in-Case.field-1 c.in-Case.parts c.in-Case.parts.items c.in-Case.is refl))
    (sym c.if-has_else.false ∙ c.has_else.ensures ∙ ap (λ ys. has_else (parts_of (map view_part ys))) c.deref-in-Case.ensures.value)
