-- The codes of faults.
use Rattle.std.specs.Prelude.{ℕ, List, codes}
use Rattle.prefix_patterns.specs.declared.set.SetFault.{SetFault}
use Rattle.prefix_patterns.specs.declared.set.SetFault.TheVariants.{TooManyPatterns, Memory}

-- the code of a fault in building a set (this project's own choice)
abbrev pub set_fault_code : SetFault → List ℕ
set_fault_code TooManyPatterns = codes "S1"
set_fault_code Memory = codes "S2"
