-- The codes of what the state of a domain's script refuses. (This project's own choice.)
use Rattle.std.specs.Prelude.{ℕ, List, codes}
use Rattle.domain_cmds.specs.declared.fault.DomainStateFault.{DomainStateFault}
use Rattle.domain_cmds.specs.declared.fault.DomainStateFault.TheVariants.{NoSuchNode, NoDomain, TooLate, UnknownFilter, BadNode, Linked, Apart, Unplayable}

-- the code that names why the state of the script refuses a command
abbrev pub state_code : DomainStateFault → List ℕ
state_code NoSuchNode = codes "O2"
state_code NoDomain = codes "O4"
state_code TooLate = codes "O5"
state_code UnknownFilter = codes "O6"
state_code BadNode = codes "D1"
state_code Linked = codes "D2"
state_code Apart = codes "D3"
state_code Unplayable = codes "D4"
