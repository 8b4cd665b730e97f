use Rattle.std.proofs.Common.{false}
use Rattle.program_console.specs.Following.{FindsNext}
use Rattle.program_console.proofs.Following.{none_done, one_more}
use Rattle.ncimport.specs.Importing.{ImportsConversion}
use Rattle.ncimport.proofs.importing.import_conversions.Goals as goal

pub loop-conversion-init : goal.loop-conversion-init
loop-conversion-init g c =
    none_done false (FindsNext (ImportsConversion (g.F.Folder.creates c.args.files.now) (g.F.Folder.leaves c.args.files.now) c.args.how.now c.args.placed.now))
    c.args.conversions.now _

pub loop-conversion-preserved : goal.loop-conversion-preserved
loop-conversion-preserved g c =
    one_more false (FindsNext (ImportsConversion (g.F.Folder.creates c.args.files.now) (g.F.Folder.leaves c.args.files.now) c.args.how.now c.args.placed.now))
    c.args.conversions.now c.loop-conversion.conversion-index c.conversion-item.result _ _ _ c.loop-conversion.is_left c.is_any-is_left.result
    c.loop-conversion-test.true c.conversion-item.is c.loop-conversion.invariant (c.in_ok-one.one, c.in_ok-one.ensures, c.is_any-is_left.ensures)
