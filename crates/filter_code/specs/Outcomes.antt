-- The codes of the faults.
use Rattle.std.specs.Prelude.{ℕ, List, codes}
use Rattle.filter_code.specs.declared.outcome.FaultKind.{FaultKind}
use Rattle.filter_code.specs.declared.outcome.FaultKind.TheVariants as fault

-- the code of a fault, as ASCII text
abbrev pub fault_code : FaultKind → List ℕ
fault_code fault.MissingOperand = codes "K1"
fault_code fault.WrongKind = codes "K2"
fault_code fault.ZeroDivisor = codes "K3"
fault_code fault.OutsideCode = codes "K4"
fault_code fault.FullStack = codes "K5"
fault_code fault.LowerMetric = codes "K6"
fault_code fault.UnknownName = codes "K7"
