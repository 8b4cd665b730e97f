use Rattle.std.proofs.Common.{false}
use Rattle.program_console.specs.Following.{DoesFirst, FindsNext}
use Rattle.ncimport.specs.Importing.{ImportsConversion}
use Rattle.ncimport.proofs.importing.import_conversions.Given as goal

-- the filters so far were imported, and one of them was left out or none
abbrev pub invariant-loop-conversion : goal.invariant-loop-conversion
invariant-loop-conversion g l =
    DoesFirst false (FindsNext (ImportsConversion (g.F.Folder.creates l.files) (g.F.Folder.leaves l.files) l.how l.placed)) l.conversions l.conversion-index
    l.fn.console l.console l.is_left
