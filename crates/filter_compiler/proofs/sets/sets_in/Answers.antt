use Rattle.std.proofs.Common.{◌≡◌, map, ap, subst, ◌∙◌}
use Rattle.filter_syntax.specs.SyntaxCommands.{commands_of, view_command}
use Rattle.filter_syntax.specs.SyntaxText.{view_filter}
use Rattle.filter_syntax.specs.declared.tree.filter.Filter.{Filter}
use Rattle.filter_compiler.specs.SetOrder.{no_sets}
use Rattle.filter_compiler.specs.Translation.{commands_sets}
use Rattle.filter_compiler.specs.Written.{HoldsSets}
use Rattle.filter_compiler.proofs.sets.sets_in.Goals as goal

pub returns : goal.returns
returns c =
    let body_is : commands_of (map view_command c.body.result.now) ≡ (view_filter c.args.typed.now).body =
    c.body.ensures.view ∙ ap (λ (x : Filter). (view_filter x).body) c.filter.ensures.value in
    subst (λ b. HoldsSets c.gather_commands.new.lists (commands_sets b)) body_is
    (c.gather_commands.ensures.holds no_sets c.new-lists.ensures)
