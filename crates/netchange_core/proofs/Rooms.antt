-- Room that stays.
use Rattle.std.proofs.Common.{ℕ, ◌<◌, List, length, slice_set, length-set, arith}
use Rattle.netchange_core.specs.declared.neighbour.Neighbour.{Neighbour}
use Rattle.netchange_core.specs.Room.{HasRoom, HaveRoom}
use Rattle.netchange_core.proofs.Replaced.{set_each}

-- where the neighbour in a place is replaced by one that has room
pub room_set : (more : ℕ) (ns : List Neighbour) (k : ℕ) (n : Neighbour) → k < length ns → HaveRoom more ns → HasRoom more n →
    HaveRoom more (slice_set ns k n)
room_set more ns k n h room here = λ j d short.
    set_each (λ i m. i < length ns → HasRoom more m) ns k n d h (λ _. here) (λ i other. room i d) j
    (omega (arith, length-set ns k n))
