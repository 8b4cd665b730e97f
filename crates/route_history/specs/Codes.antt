-- The codes of the faults of a call. (This project's own choice.)
use Rattle.std.specs.Prelude.{ℕ, List, codes}
use Rattle.route_history.specs.declared.fault.CallFault.{CallFault}
use Rattle.route_history.specs.declared.fault.CallFault.TheVariants as fault

-- the code of a fault, as ASCII text
abbrev pub call_code : CallFault → List ℕ
call_code fault.Full = codes "J1"
call_code fault.Memory = codes "J2"
