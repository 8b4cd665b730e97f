-- The codes of the faults that end a stream of lines. This project's own choice.
use Rattle.std.specs.Prelude.{ℕ, List, codes}
use Rattle.line_protocol.specs.declared.faults.StreamFault.{StreamFault}
use Rattle.line_protocol.specs.declared.faults.StreamFault.TheVariants.{Read, Write, Memory, TooLong}

-- the code that names a fault
abbrev pub fault_code : StreamFault → List ℕ
fault_code Read = codes "E1"
fault_code Write = codes "E2"
fault_code Memory = codes "E3"
fault_code TooLong = codes "E4"
