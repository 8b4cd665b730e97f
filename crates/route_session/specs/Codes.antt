-- The codes of the faults of a run of sessions. (This project's own choice.)
use Rattle.std.specs.Prelude.{ℕ, List, codes}
use Rattle.route_session.specs.declared.fault.RunFault.{RunFault}
use Rattle.route_session.specs.declared.fault.RunFault.TheVariants as fault

-- the code of a fault, as ASCII text
abbrev pub run_code : RunFault → List ℕ
run_code fault.Memory = codes "X1"
run_code fault.NotStarted = codes "X2"
