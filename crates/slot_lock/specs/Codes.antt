-- The codes of the faults. (This project's own choice.)
use Rattle.std.specs.Prelude.{ℕ, List, codes}
use Rattle.slot_lock.specs.declared.fault.LockFault.{LockFault}
use Rattle.slot_lock.specs.declared.fault.LockFault.TheVariants as lock_fault
use Rattle.slot_lock.specs.declared.fault.TryFault.{TryFault}
use Rattle.slot_lock.specs.declared.fault.TryFault.TheVariants as try_fault

-- the code of a fault, as ASCII text
abbrev pub try_code : TryFault → List ℕ
try_code (try_fault.Busy event) = codes "L1"
try_code try_fault.Full = codes "J1"
try_code try_fault.Memory = codes "J2"

abbrev pub lock_code : LockFault → List ℕ
lock_code lock_fault.Held = codes "L2"
lock_code lock_fault.Memory = codes "L3"
