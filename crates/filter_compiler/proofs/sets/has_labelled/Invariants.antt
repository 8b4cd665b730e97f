use Rattle.std.proofs.Common.{◌≡◌, map}
use Rattle.std.proofs.Math.ListN.{drop}
use Rattle.filter_syntax.specs.SyntaxCommands.{parts_of, view_part}
use Rattle.filter_compiler.specs.Translation.{has_labelled}
use Rattle.filter_compiler.proofs.sets.has_labelled.Given as goal

-- no part so far has a label of ranges
abbrev pub invariant-loop-label : goal.invariant-loop-label
invariant-loop-label l =
    has_labelled (parts_of (map view_part l.parts)) ≡ has_labelled (parts_of (map view_part (drop l.label-index l.parts)))
