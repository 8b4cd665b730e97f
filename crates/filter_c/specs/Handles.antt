-- What C holds.
use Rattle.std.specs.Prelude.{Option, Some, None}
use base.Fml.{Fml, feq}
use denote.RattleType.{RattleType}
use denote.RawPtr.{Ptr, null_ptr}
use Rattle.std.specs.Global.{Global}
use Rattle.std.specs.Box.Ownership.{box_owns}
use Rattle.std_heap.specs.contracts.GlobalAllocator.TheImpl.{ghosts}

-- the heap of the C library
abbrev pub heap : Global
heap = record { memory = record { seal = tt } }

-- the value in a block of its own, which this address is the address of
abbrev pub block_owns : (R : RattleType) → Ptr → R.Denot → Fml
block_owns R p x = box_owns (ghosts.dealloc_token heap) R p x

-- such a value, or none and a null pointer
abbrev pub handle_owns : (R : RattleType) → Ptr → Option R.Denot → Fml
handle_owns R p None = feq Ptr p null_ptr
handle_owns R p (Some x) = block_owns R p x
