-- The codes of faults.
use Rattle.std.specs.Prelude.{ℕ, List, codes}
use Rattle.int_sets.specs.declared.fault.SetFault.{SetFault}
use Rattle.int_sets.specs.declared.fault.SetFault.TheVariants.{TooManyRanges, Memory}

-- the code of a fault in building a set (this project's own choice)
abbrev pub set_fault_code : SetFault → List ℕ
set_fault_code TooManyRanges = codes "S1"
set_fault_code Memory = codes "S2"
