use Rattle.std.proofs.Common.{◌≡◌, ◌++◌, map, take}
use Rattle.std.specs.List.{flat_map}
use Rattle.ncroute.specs.Reloading.{plain_use, use_of}
use Rattle.ncroute.proofs.reloading.push_plain.Given as goal

-- those of the neighbours so far are added
abbrev pub invariant-loop-node : goal.invariant-loop-node
invariant-loop-node l =
    map use_of l.uses.items ≡ map use_of l.fn.uses.items ++ flat_map (plain_use l.direction l.said l.plain.value) (take l.node-index l.neighbours)
