-- The faults that end a script whose history is saved. (This project's own choice.)
use Rattle.std.specs.Prelude.{ℕ, List, codes}
use Rattle.line_protocol.specs.Faults.{fault_code}
use Rattle.line_protocol.specs.declared.faults.StreamFault.{StreamFault}
use Rattle.line_protocol.specs.declared.faults.StreamFault.TheVariants.{Memory}
use Rattle.router_script.specs.declared.fault.SavingFault.{SavingFault}
use Rattle.router_script.specs.declared.fault.SavingFault.TheVariants.{Stream, Saver}

-- the code that names a fault
abbrev pub saving_code : SavingFault → List ℕ
saving_code (Stream fault) = fault_code fault
saving_code Saver = codes "E2"

-- The fault of the lines' own streams by which the answers end so: a saver that fails ends them as refused memory does, each of them whole.
abbrev pub stream_of : SavingFault → StreamFault
stream_of (Stream fault) = fault
stream_of Saver = Memory
