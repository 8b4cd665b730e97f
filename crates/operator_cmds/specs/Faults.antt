-- The codes of what is wrong with a command. (This project's own choice.)
use Rattle.std.specs.Prelude.{ℕ, List, codes}
use Rattle.operator_cmds.specs.declared.fault.CommandFault.{CommandFault}
use Rattle.operator_cmds.specs.declared.fault.CommandFault.TheVariants.{Words, Numbers, Hexadecimal, TooLong, Prefix, Memory}
use Rattle.operator_cmds.specs.declared.fault.StateFault.{StateFault}
use Rattle.operator_cmds.specs.declared.fault.StateFault.TheVariants.{NoNetwork, TooLate, UnknownFilter}

-- the code that names a fault
abbrev pub fault_code : CommandFault → List ℕ
fault_code Words = codes "O1"
fault_code Numbers = codes "O2"
fault_code Hexadecimal = codes "O3"
fault_code TooLong = codes "O7"
fault_code Prefix = codes "O8"
fault_code Memory = codes "E3"

-- the code that names why the state of the script refuses a command
abbrev pub state_code : StateFault → List ℕ
state_code NoNetwork = codes "O4"
state_code TooLate = codes "O5"
state_code UnknownFilter = codes "O6"
