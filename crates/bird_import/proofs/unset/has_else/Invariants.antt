use Rattle.std.proofs.Common.{◌≡◌, drop, map}
use Rattle.filter_syntax.specs.SyntaxCommands.{parts_of, view_part}
use Rattle.bird_import.specs.Unassigned.{has_else}
use Rattle.bird_import.proofs.unset.has_else.Given as goal

-- the parts that are left answer for all of them
abbrev pub invariant-loop-label : goal.invariant-loop-label
invariant-loop-label l = has_else (parts_of (map view_part l.parts)) ≡ has_else (parts_of (map view_part (drop l.label-index l.parts)))
