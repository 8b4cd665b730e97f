-- What a reading of a line answers, beside what the line gives. (This project's own choice.)
use Rattle.std.specs.Prelude.{◌≡◌, Bool, true, false, Result, Ok, Err}
use Rattle.domain_cmds.specs.CommandView.{CommandView, Code, view_of}
use Rattle.domain_cmds.specs.Commands.{Read}
use Rattle.domain_cmds.specs.declared.command.DomainCommand.{DomainCommand}
use Rattle.operator_cmds.specs.Readings.{IsFault}
use Rattle.operator_cmds.specs.declared.fault.CommandFault.{CommandFault}

-- the command or the fault that the line gives
abbrev pub IsRead : Result DomainCommand CommandFault → Read → Type 0
IsRead (Ok command) read = read ≡ Ok (view_of command)
IsRead (Err why) read = read ≡ Err why

-- only a `code` command needs memory
abbrev pub is_code : CommandView → Bool
is_code (Code name bytes) = true
is_code command = false

-- the command or the fault that the line gives, unless memory was refused
abbrev pub IsReadIn : Result DomainCommand CommandFault → Read → Type 0
IsReadIn (Ok command) read = read ≡ Ok (view_of command)
IsReadIn (Err why) read = IsFault is_code why read
