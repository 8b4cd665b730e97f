use Rattle.std.proofs.Common.{sym, ◌∙◌}
use Rattle.filter_compiler.proofs.Labels.{labelled_end, labelled_here, labelled_later}
use Rattle.filter_compiler.proofs.sets.has_labelled.Goals as goal

pub returns-in-Ranges : goal.returns-in-Ranges
returns-in-Ranges c =
    sym (c.loop-label.invariant
    ∙ labelled_here c.args.parts.now c.loop-label.label-index c.loop-label-item.result c.in-Ranges.field-0 c.loop-label-test.true
    c.loop-label-item.is c.in-Ranges.is)

pub loop-label-preserved : goal.loop-label-preserved
loop-label-preserved c =
    c.loop-label.invariant
    ∙ labelled_later c.args.parts.now c.loop-label.label-index c.loop-label-item.result c.in-Else.field-0 c.loop-label-test.true
    c.loop-label-item.is c.in-Else.is

pub returns : goal.returns
returns c = sym (c.loop-label.invariant ∙ labelled_end c.args.parts.now c.loop-label.label-index c.loop-label-test.false)
