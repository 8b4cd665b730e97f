use Rattle.std.proofs.Common.{map}
use Rattle.bird_import.specs.Items.{AreUpTo, view_of_item}
use Rattle.bird_import.proofs.items.find_items.Given as goal

-- the items so far
abbrev pub invariant-loop-statement : goal.invariant-loop-statement
invariant-loop-statement l = AreUpTo l.words l.walk.next (map view_of_item l.walk.found.items)
