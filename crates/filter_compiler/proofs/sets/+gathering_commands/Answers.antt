use Rattle.std.proofs.Common.{◌≡◌, map, ap, sym, subst, ◌∙◌}
use Rattle.filter_syntax.specs.Syntax.{view}
use Rattle.filter_syntax.specs.SyntaxCommands.{case, commands_of, if_else, if_then, parts_of, view_command, view_part}
use Rattle.filter_syntax.specs.declared.tree.command.Command.{Command}
use Rattle.filter_syntax.specs.declared.tree.command.Command.TheVariants as command
use Rattle.filter_syntax.proofs.Views.{view_case, view_if, view_if_else}
use Rattle.filter_compiler.specs.Translation.{command_sets, commands_sets, has_labelled, opening_sets, parts_sets}
use Rattle.filter_compiler.specs.Written.{Gathers}
use Rattle.filter_compiler.proofs.Gathering.{as_sets, command_gathers, gathers_then, parts_gathers}
use Rattle.filter_compiler.proofs.sets.+gathering_commands.Goals as goal

pub gather_command-returns-in-Some : goal.gather_command-returns-in-Some
gather_command-returns-in-Some t c =
    let test = view c.in-If.test in
    let chosen = view_command c.deref-in-If.result.now in
    let other = view_command c.deref-in-Some.result.now in
    let is : view_command c.args.command.now ≡ if_else test chosen other =
    ap view_command (c.in-If.is ∙ ap (command.If c.in-If.field-0 c.in-If.test c.in-If.chosen) c.in-Some.is)
    ∙ view_if_else c.in-If.field-0 c.in-If.test c.in-If.chosen c.in-Some.other
    ∙ ap (λ (x : Command). if_else test (view_command x) (view_command c.in-Some.other.value)) (sym c.deref-in-If.ensures)
    ∙ ap (λ (x : Command). if_else test chosen (view_command x)) (sym c.deref-in-Some.ensures) in
    as_sets (ap command_sets (sym is)) (gathers_then c.gather.ensures (gathers_then c.gather_command.ensures c.gather_command-in-Some.ensures))

pub gather_command-returns-in_default-other : goal.gather_command-returns-in_default-other
gather_command-returns-in_default-other t c =
    let test = view c.in-If.test in
    let chosen = view_command c.deref-in-If.result.now in
    let is : view_command c.args.command.now ≡ if_then test chosen =
    ap view_command (c.in-If.is ∙ ap (command.If c.in-If.field-0 c.in-If.test c.in-If.chosen) c.in_default-other.is)
    ∙ view_if c.in-If.field-0 c.in-If.test c.in-If.chosen ∙ ap (λ (x : Command). if_then test (view_command x)) (sym c.deref-in-If.ensures) in
    as_sets (ap command_sets (sym is)) (gathers_then c.gather.ensures c.gather_command.ensures)

pub gather_commands-loop-command-preserved : goal.gather_commands-loop-command-preserved
gather_commands-loop-command-preserved t c =
    command_gathers c.args.commands.now c.loop-command.command-index c.command-item.result c.loop-command-test.true c.command-item.is
    c.loop-command.invariant c.gather_command.ensures

pub gather_command-returns-in-Case : goal.gather_command-returns-in-Case
gather_command-returns-in-Case t c =
    let parts = c.in-Case.parts.items in
    let is : view_command c.args.command.now ≡ case (view c.in-Case.argument) (parts_of (map view_part parts)) =
    ap view_command c.in-Case.is ∙ view_case c.in-Case.field-0 c.in-Case.argument c.in-Case.parts in
    let opened =
    subst (λ b. Gathers c.gather-in-Case.new.lists c.gather_opening.new.lists (opening_sets b))
    (c.has_labelled.ensures ∙ ap (λ l. has_labelled (parts_of (map view_part l))) c.deref-in-Case.ensures.value) c.gather_opening.ensures in
    let put =
    subst (λ l. Gathers c.gather_opening.new.lists c.gather_parts.new.lists (parts_sets (parts_of (map view_part l))))
    c.deref-in-Case-2.ensures.value c.gather_parts.ensures in
    as_sets (ap command_sets (sym is)) (gathers_then c.gather-in-Case.ensures (gathers_then opened put))

pub gather_parts-loop-label-preserved : goal.gather_parts-loop-label-preserved
gather_parts-loop-label-preserved t c =
    parts_gathers c.args.parts.now c.loop-label.label-index c.loop-label-item.result c.loop-label-test.true c.loop-label-item.is
    c.loop-label.invariant c.gather_label.ensures
    (subst (λ l. Gathers c.gather_label.new.lists c.gather_commands.new.lists (commands_sets (commands_of (map view_command l))))
    c.deref.ensures.value c.gather_commands.ensures)
