use Rattle.ncimport.specs.Noting.{note_line}
use Rattle.ncimport.proofs.NotedTexts.{one_line_more}
use Rattle.ncimport.proofs.placed.push_notes.Goals as goal

pub loop-warning-preserved : goal.loop-warning-preserved
loop-warning-preserved c =
    one_line_more (note_line c.args.placed.now c.args.conversion.now.name.now c.args.conversion.now.at c.args.origins.now c.args.code.now.verified.program.sets)
    c.args.out.now.items c.loop-warning.out.items c.push_note.new.out.items c.args.warnings.now c.loop-warning.warning-index c.warning-item.result
    c.loop-warning-test.true c.warning-item.is c.loop-warning.invariant c.in_ok-push_note.ensures
