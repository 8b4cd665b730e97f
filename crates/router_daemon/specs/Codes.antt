-- The codes of the faults of a running router. (This project's own choice.)
use Rattle.std.specs.Prelude.{ℕ, List, codes}
use Rattle.history_saver.specs.Codes.{save_code}
use Rattle.line_protocol.specs.Faults.{fault_code as stream_code}
use Rattle.route_history.specs.Codes.{call_code}
use Rattle.slot_lock.specs.Codes.{lock_code}
use Rattle.router_daemon.specs.declared.fault.DaemonFault.{DaemonFault}
use Rattle.router_daemon.specs.declared.fault.DaemonFault.TheVariants as fault

-- the code of a fault, as ASCII text
abbrev pub fault_code : DaemonFault → List ℕ
fault_code (fault.Stream why) = stream_code why
fault_code (fault.Call why) = call_code why
fault_code (fault.Lock why) = lock_code why
fault_code (fault.NotBegun why) = save_code why
fault_code (fault.Save why) = save_code why
fault_code fault.NotStarted = codes "X2"
fault_code fault.Memory = codes "E3"
