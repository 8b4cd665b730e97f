-- How a run of the program ends. (This project's own choice.)
use Rattle.std.specs.Prelude.{◌==◌, ◌||◌, ℕ, List, [], ◌∷◌, ◌++◌, codes, if◌then◌else◌}
use Rattle.filter_reports.specs.Faults.{program_code}
use Rattle.filter_reports.specs.declared.fault.ProgramFault.{ProgramFault}
use Rattle.program_console.specs.declared.ending.Program.{Program}
use Rattle.program_console.specs.declared.ending.Program.TheVariants.{Ncroute, Ncimport}

-- the exit status of several things that were done one after another: 1 where one of them has it, and otherwise 3 where one has
abbrev pub worst_status : ℕ → ℕ → ℕ
worst_status earlier one = if (earlier == 1) || (one == 0) then earlier else one

-- the name of a program
abbrev pub program_name : Program → List ℕ
program_name Ncroute = codes "ncroute"
program_name Ncimport = codes "ncimport"

-- the line that tells of a fault of a program
abbrev pub fault_line : Program → ProgramFault → List ℕ
fault_line program fault = program_name program ++ codes ": " ++ program_code fault ++ 10 ∷ []
