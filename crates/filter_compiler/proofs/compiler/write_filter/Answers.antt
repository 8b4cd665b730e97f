use Rattle.std.proofs.Common.{◌≡◌, [], map, ap, subst, ◌∙◌}
use Rattle.filter_syntax.specs.SyntaxCommands.{commands_of, view_command, view_decl}
use Rattle.filter_syntax.specs.SyntaxText.{view_filter}
use Rattle.filter_syntax.specs.declared.tree.filter.Filter.{Filter}
use Rattle.filter_compiler.specs.SetOrder.{none_before}
use Rattle.filter_compiler.specs.Translation.{commands_code, declarations_code}
use Rattle.filter_compiler.specs.Written.{Puts}
use Rattle.filter_compiler.proofs.Puts.{puts_then}
use Rattle.filter_compiler.proofs.compiler.write_filter.Goals as goal

pub returns-clause-code : goal.returns-clause-code
returns-clause-code c =
    let f = view_filter c.args.typed.now in
    let decls_are : map view_decl c.decls.result.now ≡ f.decls =
    c.decls.ensures.view ∙ ap (λ (x : Filter). (view_filter x).decls) c.filter-filter.ensures.value in
    let body_is : commands_of (map view_command c.body.result.now) ≡ f.body =
    c.body.ensures.view ∙ ap (λ (x : Filter). (view_filter x).body) c.filter-filter.ensures.value in
    let declared =
    subst (λ l. Puts c.new-out.result c.emit_declarations.new.out (declarations_code 0 l)) decls_are c.emit_declarations.ensures.code in
    let commanded =
    subst (λ b. Puts c.emit_declarations.new.out c.emit_commands.new.out (commands_code f.decls none_before b)) body_is
    (c.emit_commands.ensures.code.puts none_before c.first.ensures) in
    (puts_then declared (puts_then commanded c.put.ensures.code)).holds [] c.new-out.ensures.holds
