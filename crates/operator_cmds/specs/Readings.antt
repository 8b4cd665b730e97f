-- What a reading of a line answers, beside what the line gives. (This project's own choice.)
use Rattle.std.specs.Prelude.{◌≡◌, ℕ, Bool, true, false, List, Result, Ok, Err}
use Rattle.operator_cmds.specs.CommandView.{CommandView, Code, view_of}
use Rattle.operator_cmds.specs.Commands.{Read}
use Rattle.operator_cmds.specs.declared.command.Command.{Command}
use Rattle.operator_cmds.specs.declared.fault.CommandFault.{CommandFault}
use Rattle.operator_cmds.specs.declared.fault.CommandFault.TheVariants as fault

-- the command or the fault that the line gives
abbrev pub IsRead : Result Command CommandFault → Read → Type 0
IsRead (Ok command) read = read ≡ Ok (view_of command)
IsRead (Err why) read = read ≡ Err why

-- `needs` says which commands need memory; of the others one that is refused for its digits alone may need it
abbrev pub may_need_memory : {X : Type 0} → (X → Bool) → Result X CommandFault → Bool
may_need_memory needs (Ok command) = needs command
may_need_memory needs (Err fault.Hexadecimal) = true
may_need_memory needs (Err why) = false

-- a fault that the line gives, or refused memory where it may be needed
abbrev pub IsFault : {X : Type 0} → (X → Bool) → CommandFault → Result X CommandFault → Type 0
IsFault needs fault.Words read = read ≡ Err fault.Words
IsFault needs fault.Numbers read = read ≡ Err fault.Numbers
IsFault needs fault.Hexadecimal read = read ≡ Err fault.Hexadecimal
IsFault needs fault.TooLong read = read ≡ Err fault.TooLong
IsFault needs fault.Prefix read = read ≡ Err fault.Prefix
IsFault needs fault.Memory read = may_need_memory needs read ≡ true

-- the same of the name and the bytes of a code file
abbrev pub IsCodeFault : CommandFault → Result (List ℕ × List ℕ) CommandFault → Type 0
IsCodeFault why read = IsFault (λ _. true) why read

-- only a `code` command needs memory
abbrev pub is_code : CommandView → Bool
is_code (Code name bytes) = true
is_code command = false

-- the command or the fault that the line gives, unless memory was refused
abbrev pub IsReadIn : Result Command CommandFault → Read → Type 0
IsReadIn (Ok command) read = read ≡ Ok (view_of command)
IsReadIn (Err why) read = IsFault is_code why read
