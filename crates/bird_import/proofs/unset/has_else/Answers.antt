use Rattle.std.proofs.Common.{◌∙◌, not, sym}
use Rattle.filter_syntax.specs.SyntaxCommands.{has_ranges, parts_of, view_label, view_part}
use Rattle.bird_import.specs.Unassigned.{has_else}
use Rattle.bird_import.proofs.Unassigned.{none_left, one_left, or_here, or_next}
use Rattle.bird_import.proofs.unset.has_else.Goals as goal

pub returns-then-is_else : goal.returns-then-is_else
returns-then-is_else c =
    let xs = c.args.parts.now in
    let i = c.loop-label.label-index in
    let x = c.loop-label-item.result in
    or_here (not (has_ranges (view_label x.0))) _ _
    (one_left view_part (λ ys. has_else (parts_of ys)) xs i x _ c.loop-label-test.true c.loop-label-item.is c.loop-label.invariant)
    (sym c.if-is_else.true ∙ c.is_else.ensures)

pub loop-label-preserved : goal.loop-label-preserved
loop-label-preserved c =
    let xs = c.args.parts.now in
    let i = c.loop-label.label-index in
    let x = c.loop-label-item.result in
    or_next (not (has_ranges (view_label x.0))) _ _
    (one_left view_part (λ ys. has_else (parts_of ys)) xs i x _ c.loop-label-test.true c.loop-label-item.is c.loop-label.invariant)
    (sym c.if-is_else.false ∙ c.is_else.ensures)

pub returns : goal.returns
returns c =
    sym (none_left view_part (λ ys. has_else (parts_of ys)) c.args.parts.now c.loop-label.label-index _ c.loop-label-test.false c.loop-label.invariant)
