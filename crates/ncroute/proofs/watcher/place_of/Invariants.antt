use Rattle.std.proofs.Common.{◌≡◌, take}
use Rattle.ncroute.specs.Watching.{name_in, number_in, part_of}
use Rattle.ncroute.proofs.watcher.place_of.Given as goal

-- the place by the parts so far
abbrev pub invariant-loop-part : goal.invariant-loop-part
invariant-loop-part l =
    (l.place.0.now ≡ name_in (part_of (take l.part-index l.parts) l.number))
    × (l.place.1 ≡ number_in l.number (part_of (take l.part-index l.parts) l.number))
