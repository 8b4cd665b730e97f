use Rattle.std.proofs.Common.{◌≤◌, map, take}
use Rattle.filter_syntax.specs.SyntaxCommands.{view_decl}
use Rattle.filter_syntax.specs.Surroundings.{variable_limit}
use Rattle.filter_types.specs.Kinds.{AreDeclaredOnce}
use Rattle.filter_types.proofs.variables.check_variables.Given as goal

-- the variables before have names of their own, and there are not too many of them
abbrev pub invariant-loop-number : goal.invariant-loop-number
invariant-loop-number l = AreDeclaredOnce (map view_decl (take l.number l.variables)) × (l.number ≤ variable_limit)
