-- A handle may go to another thread, as its value and the heap may.
use base.Shift.{Keyless}
use mir.Raw.{raw}
use denote.Memory.{lone}
use denote.RawPtr.{Ptr}
use denote.Struct.Struct.{exits_of}
use denote.Struct.Owning.{shape, fields, to}
use denote.Param.Send.{IsSend, AllSend, owning_send, struct_send, sendable}
use Rattle.std.proofs.Crossing as crossing
use Rattle.std.specs.Prelude.{Option, Some, None}
use Rattle.std_alloc.proofs.SendSync.{quiet, lies}
use Rattle.filter_c.specs.Handles.{handle_owns, heap}
use Rattle.filter_c.specs.contracts.owner.Owner as Owner
use Rattle.filter_c.proofs.owner.Owner.TheSendSync.{the_send as owner}
use Rattle.filter_c.specs.contracts.handle.FilterHandle.{the_row, the_type}

owned : (p : Ptr) (x : Option (Owner.the_row).Denot) → Keyless (handle_owns Owner.the_row p x)
owned p None = tt
owned p (Some x) = (lies Owner.the_row owner p x, crossing.frees.frees heap (raw (lone Owner.the_row.mir)) p)

pub send : IsSend the_row
send =
    let all : AllSend (fields the_type) = (search sendable, tt) in
    owning_send the_type all (λ d. owned d.at d.value) (λ k. quiet (to the_type) (exits_of k (fields the_type)) ((struct_send (shape the_type) all).leaving k))
