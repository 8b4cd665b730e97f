use Rattle.std.proofs.Common.{◌+◌, ◌*◌}
use Rattle.ncimport.specs.Including.{PutsFirst, PutsIncluded, opened}
use Rattle.ncimport.specs.Places.{config_of, view_of}
use Rattle.ncimport.proofs.including.+including.Given as goal

abbrev pub decreases-push_source : goal.decreases-push_source
decreases-push_source g l = 2 * l.depth + 1

abbrev pub decreases-push_included : goal.decreases-push_included
decreases-push_included g l = 2 * l.depth

-- the files so far that the file includes were put behind the configuration
abbrev pub invariant-push_source-loop-one : goal.invariant-push_source-loop-one
invariant-push_source-loop-one g l =
    PutsFirst (PutsIncluded (g.F.Folder.opens l.files) l.depth) l.file l.text l.one-items l.one-index
    (opened (config_of l.fn.whole) (view_of l.fn.source l.text)) (config_of l.whole) l.fn.console l.console l.done
