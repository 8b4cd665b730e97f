use Rattle.std.proofs.Common.{◌≡◌, take}
use Rattle.filter_compiler.proofs.sets.build_int_sets.Given as goal

-- the sets so far
abbrev pub invariant-loop-list : goal.invariant-loop-list
invariant-loop-list l = l.sets.items ≡ take l.list-index l.lists
