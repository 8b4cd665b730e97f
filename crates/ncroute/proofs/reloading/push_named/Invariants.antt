use Rattle.std.proofs.Common.{◌≡◌, ◌++◌, map, take}
use Rattle.std.specs.List.{flat_map}
use Rattle.ncroute.specs.Reloading.{named_use, use_of}
use Rattle.ncroute.proofs.reloading.push_named.Given as goal

-- the uses so far are added
abbrev pub invariant-loop-one : goal.invariant-loop-one
invariant-loop-one l =
    map use_of l.uses.items ≡ map use_of l.fn.uses.items ++ flat_map (named_use l.direction l.filters.entries) (take l.one-index l.said)
