use Rattle.std.proofs.Common.{◌≡◌, length, take}
use Rattle.filter_syntax.specs.Names.{longest_short}
use Rattle.filter_syntax.proofs.tree.name.Name.from_slice.Given as goal

-- the array keeps its length, and begins as the text does
abbrev pub invariant-loop-at : goal.invariant-loop-at
invariant-loop-at l = (length l.bytes ≡ longest_short) × (take l.at l.bytes ≡ take l.at l.text)
