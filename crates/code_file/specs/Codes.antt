-- The code and the place of a fault, by which it is named to a person.
use Rattle.std.specs.Prelude.{ℕ, List, codes}
use Rattle.code_file.specs.declared.fault.FileFault.{FileFault}
use Rattle.code_file.specs.declared.fault.FileFault.TheVariants as fault

-- the code, as ASCII text, and the place, which is 0 where there is none
abbrev pub code_and_place : FileFault → List ℕ × ℕ
code_and_place (fault.OtherMark at) = (codes "C1", at)
code_and_place (fault.EndsEarly at) = (codes "C2", at)
code_and_place (fault.UnknownOpcode at) = (codes "C3", at)
code_and_place (fault.BadOperand at) = (codes "C4", at)
code_and_place (fault.OverLimit at) = (codes "C5", at)
code_and_place (fault.BytesAfterEnd at) = (codes "C6", at)
code_and_place fault.Memory = (codes "C7", 0)
code_and_place fault.OldForm = (codes "C8", 0)

abbrev pub fault_code : FileFault → List ℕ
fault_code why = (code_and_place why).0

abbrev pub fault_place : FileFault → ℕ
fault_place why = (code_and_place why).1
