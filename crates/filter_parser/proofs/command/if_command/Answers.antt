use Rattle.std.proofs.Common.{◌∷◌, ◌++◌, None, Some, ap, sym, ◌∙◌}
use Rattle.filter_syntax.specs.declared.tree.command.Command.TheVariants.{rolls-If}
use Rattle.filter_syntax.specs.declared.tree.command.Command.TheFolds.{fold-roll-Command}
use Rattle.filter_syntax.specs.declared.tree.command.Command.TheOpen.{Command-F}
use Rattle.filter_syntax.specs.declared.tree.command.Command.{Command}
use Rattle.filter_syntax.specs.Placed.{Kept, expr_kept}
use Rattle.filter_syntax.specs.Placed.{command_kept, command_kept_step}
use Rattle.filter_syntax.specs.Syntax.{view}
use Rattle.filter_syntax.specs.SyntaxCommands.{CommandView, view_command, view_step}
use Rattle.filter_parser.proofs.command.if_command.Goals as goal

pub returns-clause-is : goal.returns-clause-is
returns-clause-is c =
    ap view_command (sym (rolls-If c.args.at c.args.test c.in_ok-new.field-0 None))
    ∙ fold-roll-Command CommandView view_step (Command-F.If c.args.at c.args.test c.in_ok-new.field-0 None)
    ∙ ap (λ (x : Command). CommandView.if_then (view c.args.test) (view_command x)) c.in_ok-new.ensures.ok

pub returns-clause-placed : goal.returns-clause-placed
returns-clause-placed c =
    ap command_kept (sym (rolls-If c.args.at c.args.test c.in_ok-new.field-0 None))
    ∙ fold-roll-Command Kept command_kept_step (Command-F.If c.args.at c.args.test c.in_ok-new.field-0 None)
    ∙ ap (λ (x : Command). Some c.args.at ∷ (expr_kept c.args.test ++ None ∷ command_kept x)) c.in_ok-new.ensures.ok
