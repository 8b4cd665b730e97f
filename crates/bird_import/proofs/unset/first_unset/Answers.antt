use Rattle.std.proofs.Common.{◌∙◌, ap, length, refl, sym, arith}
use Rattle.std.proofs.lemmas.Option.{slice_get_read}
use Rattle.filter_syntax.specs.SyntaxCommands.{commands_of, view_command}
use Rattle.filter_syntax.specs.SyntaxText.{view_filter}
use Rattle.filter_syntax.specs.declared.tree.decl.Decl.{Decl}
use Rattle.std.proofs.Common.{map}
use Rattle.bird_import.specs.Unassigned.{reads_first_in}
use Rattle.bird_import.proofs.FirstUnset.{all_assigned, none_further, some_further, some_unset}
use Rattle.bird_import.proofs.unset.first_unset.Goals as goal

pub loop-variable-preserved : goal.loop-variable-preserved
loop-variable-preserved c =
    let decls = c.decls-variables.result.now in
    let body = commands_of (map view_command c.body-body.result.now) in
    let i = c.loop-variable.variable in
    let x = c.index-variables-variable.result in
    let is = slice_get_read decls (length decls) i x refl c.loop-variable-test.true c.index-variables-variable.is in
    let read = c.unset_in-at.ensures ∙ ap (λ v. reads_first_in v body) (c.as_slice.ensures.value
    ∙ ap (λ (d : Decl). d.name.items) (sym c.index-variables-variable.is)) in
    record {
      none = none_further decls body i x c.loop-variable.found c.earlier-found.result c.unset_in-at.result is read c.earlier-found.ensures.none
          c.loop-variable.invariant.none;
      some = some_further decls body i x c.loop-variable.found c.earlier-found.result c.unset_in-at.result is read c.earlier-found.ensures.some
          c.loop-variable.invariant.some;
    }

pub returns-clause-some : goal.returns-clause-some
returns-clause-some c =
    some_unset c.decls-variables.result.now c.body-body.result.now (view_filter c.args.filter.now) c.decls-variables.ensures.view c.body-body.ensures.view
    c.loop-variable.found c.loop-variable.invariant.some

pub returns-clause-none : goal.returns-clause-none
returns-clause-none c = λ is.
    all_assigned c.decls-variables.result.now c.body-body.result.now (view_filter c.args.filter.now) c.decls-variables.ensures.view
    c.body-body.ensures.view c.loop-variable.variable (omega (arith, c.loop-variable-test.false)) (c.loop-variable.invariant.none is)
