use Rattle.std.proofs.Common.{map}
use Rattle.bird_import.specs.Items.{AreUpTo, view_of_item}
use Rattle.bird_import.proofs.items.Walk.go_through.Given as goal

-- the items before the statement and those in it so far
abbrev pub invariant-loop-at : goal.invariant-loop-at
invariant-loop-at l = AreUpTo l.words l.initial.self.next (map view_of_item l.initial.self.found.items)
    → AreUpTo l.words l.self.next (map view_of_item l.self.found.items)
