-- The codes of the faults that end a run of the program (this project's own choice).
use Rattle.std.specs.Prelude.{ℕ, List}
use Rattle.line_protocol.specs.Faults.{fault_code}
use Rattle.line_protocol.specs.declared.faults.StreamFault.{StreamFault}
use Rattle.filter_reports.specs.declared.fault.ProgramFault.{ProgramFault}
use Rattle.filter_reports.specs.declared.fault.ProgramFault.TheVariants.{Stream}

-- the code that names a fault
abbrev pub program_code : ProgramFault → List ℕ
program_code (Stream fault) = fault_code fault

-- the fault of the stream of lines that it is
abbrev pub stream_fault : ProgramFault → StreamFault
stream_fault (Stream fault) = fault
