use Rattle.std.proofs.Common.{◌≡◌, ◌++◌, take}
use Rattle.std.specs.Prelude.{flat_map}
use Rattle.ncimport.specs.Noting.{note_line}
use Rattle.ncimport.proofs.placed.push_notes.Given as goal

-- those so far
abbrev pub invariant-loop-warning : goal.invariant-loop-warning
invariant-loop-warning l = l.out.items ≡ l.initial.out.items
    ++ flat_map (note_line l.placed l.conversion.name.now l.conversion.at l.origins l.code.verified.program.sets) (take l.warning-index l.warnings)
