use Rattle.std.proofs.Common.{◌≡◌, take}
use Rattle.ncimport.specs.Places.{stretch_of}
use Rattle.ncimport.proofs.including.stretch_of.Given as goal

-- the last of the stretches so far that begins at the byte or before it
abbrev pub invariant-loop-stretch : goal.invariant-loop-stretch
invariant-loop-stretch l = l.found ≡ stretch_of (take l.stretch-index l.whole.stretches.items) l.byte
