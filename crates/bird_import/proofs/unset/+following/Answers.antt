use Rattle.std.proofs.Common.{◌∙◌, is_some, map, refl, sym, ap}
use Rattle.filter_syntax.specs.SyntaxCommands.{commands_of, parts_of, view_command, view_part}
use Rattle.filter_syntax.specs.Syntax.{view}
use Rattle.bird_import.specs.Unassigned.{assigns, reads, reads_first, reads_first_in, reads_first_in_parts}
use Rattle.bird_import.proofs.Unassigned.{goes_on, none_left, one_left, or_here, or_next, stops_here, view_case}
use Rattle.bird_import.proofs.unset.+following.Goals as goal

pub unset_in-returns-in-Some : goal.unset_in-returns-in-Some
unset_in-returns-in-Some t c =
    let v = c.args.variable.now in
    let xs = c.args.commands.now in
    let i = c.loop-command.command-index in
    let x = c.command-item.result in
    or_here (reads_first v (view_command x)) _ _
    (one_left view_command (λ ys. reads_first_in v (commands_of ys)) xs i x _ c.loop-command-test.true c.command-item.is c.loop-command.invariant)
    (sym (ap is_some c.in-Some.is) ∙ c.unset_by.ensures)

pub unset_in-returns-then-assigns : goal.unset_in-returns-then-assigns
unset_in-returns-then-assigns t c =
    let v = c.args.variable.now in
    let xs = c.args.commands.now in
    let i = c.loop-command.command-index in
    let x = c.command-item.result in
    stops_here (reads_first v (view_command x)) (assigns v (view_command x)) _ _
    (one_left view_command (λ ys. reads_first_in v (commands_of ys)) xs i x _ c.loop-command-test.true c.command-item.is c.loop-command.invariant)
    (sym (ap is_some c.in_default.is) ∙ c.unset_by.ensures) (sym c.if-assigns.true ∙ c.assigns.ensures)

pub unset_in-loop-command-preserved : goal.unset_in-loop-command-preserved
unset_in-loop-command-preserved t c =
    let v = c.args.variable.now in
    let xs = c.args.commands.now in
    let i = c.loop-command.command-index in
    let x = c.command-item.result in
    goes_on (reads_first v (view_command x)) (assigns v (view_command x)) _ _
    (one_left view_command (λ ys. reads_first_in v (commands_of ys)) xs i x _ c.loop-command-test.true c.command-item.is c.loop-command.invariant)
    (sym (ap is_some c.in_default.is) ∙ c.unset_by.ensures) (sym c.if-assigns.false ∙ c.assigns.ensures)

pub unset_in-returns : goal.unset_in-returns
unset_in-returns t c =
    let v = c.args.variable.now in
    sym (none_left view_command (λ ys. reads_first_in v (commands_of ys)) c.args.commands.now c.loop-command.command-index _ c.loop-command-test.false
    c.loop-command.invariant)

pub unset_in_parts-returns-in-Some : goal.unset_in_parts-returns-in-Some
unset_in_parts-returns-in-Some t c =
    let v = c.args.variable.now in
    let xs = c.args.parts.now in
    let i = c.loop-commands.commands-index in
    let x = c.loop-commands-item.result in
    or_here (reads_first_in v (commands_of (map view_command x.1.items))) _ _
    (one_left view_part (λ ys. reads_first_in_parts v (parts_of ys)) xs i x _ c.loop-commands-test.true c.loop-commands-item.is c.loop-commands.invariant)
    (sym (ap is_some c.in-Some.is) ∙ c.unset_in.ensures ∙ ap (λ ys. reads_first_in v (commands_of (map view_command ys))) c.deref.ensures.value)

pub unset_in_parts-loop-commands-preserved : goal.unset_in_parts-loop-commands-preserved
unset_in_parts-loop-commands-preserved t c =
    let v = c.args.variable.now in
    let xs = c.args.parts.now in
    let i = c.loop-commands.commands-index in
    let x = c.loop-commands-item.result in
    or_next (reads_first_in v (commands_of (map view_command x.1.items))) _ _
    (one_left view_part (λ ys. reads_first_in_parts v (parts_of ys)) xs i x _ c.loop-commands-test.true c.loop-commands-item.is c.loop-commands.invariant)
    (sym (ap is_some c.in_default.is) ∙ c.unset_in.ensures ∙ ap (λ ys. reads_first_in v (commands_of (map view_command ys))) c.deref.ensures.value)

pub unset_in_parts-returns : goal.unset_in_parts-returns
unset_in_parts-returns t c =
    let v = c.args.variable.now in
    sym (none_left view_part (λ ys. reads_first_in_parts v (parts_of ys)) c.args.parts.now c.loop-commands.commands-index _ c.loop-commands-test.false
    c.loop-commands.invariant)

pub unset_by-returns-in-None-read_by : goal.unset_by-returns-in-None-read_by
unset_by-returns-in-None-read_by t c =
    let v = c.args.variable.now in
    let parts = parts_of (map view_part c.in-Case.parts.items) in
    c.unset_in_parts.ensures ∙ ap (λ ys. reads_first_in_parts v (parts_of (map view_part ys))) c.deref-in-None-read_by.ensures.value
    ∙ sym (or_next (reads v (view c.in-Case.argument)) (reads_first_in_parts v parts) _
    (ap (reads_first v) (view_case c.args.command.now c.in-Case.field-0 c.in-Case.argument c.in-Case.parts c.in-Case.parts.items c.in-Case.is refl))
    (sym (ap is_some c.in-None-read_by.is) ∙ c.read_by-in-Case.ensures))
