use Rattle.std.proofs.Common.{◌++◌, ◌∙◌, Option, ap, sym}
use Rattle.std.specs.Prelude.{option_to_list}
use Rattle.filter_lint.proofs.Found.{none_below, one_more}
use Rattle.filter_lint.specs.declared.warning.Warning.{Warning}
use Rattle.filter_lint.proofs.finding.found_below.Goals as goal

pub loop-at-init : goal.loop-at-init
loop-at-init g c = λ f is. c.new-found.ensures.items ∙ sym (none_below f)

pub loop-at-preserved : goal.loop-at-preserved
loop-at-preserved g c = λ f is.
    one_more f c.loop-at.at c.loop-at.found.items c.push_found.new.out.items (c.loop-at.invariant f is)
    (c.in_ok-push_found.ensures ∙ ap (λ (o : Option Warning). c.loop-at.found.items ++ option_to_list o)
    (is c.loop-at.at c.said.result c.said.ensures))
