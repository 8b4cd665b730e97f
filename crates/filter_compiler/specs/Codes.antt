-- The codes of the faults of translation. (This project's own choice.)
use Rattle.std.specs.Prelude.{ℕ, List, codes}
use Rattle.filter_compiler.specs.declared.fault.CompileFault.{CompileFault}
use Rattle.filter_compiler.specs.declared.fault.CompileFault.TheVariants as fault

-- the code that a program answers
abbrev pub fault_code : CompileFault → List ℕ
fault_code fault.TooManyInstructions = codes "G1"
fault_code fault.TooManySets = codes "G2"
fault_code fault.Memory = codes "G3"
