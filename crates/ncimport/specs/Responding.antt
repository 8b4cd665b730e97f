-- What the program does for the words of its command line, and its exit status. (This project's own choice.)
use Rattle.std.specs.Prelude.{◌≡◌, ◌⊎◌, ℕ, List, Option, Result, Ok, Err}
use Rattle.std.specs.declared.io.Error.{Error}
use Rattle.filter_reports.specs.declared.fault.ProgramFault.{ProgramFault}
use Rattle.filter_reports.specs.declared.fault.ProgramFault.TheVariants.{Stream}
use Rattle.import_words.specs.declared.words.Importing.{Importing}
use Rattle.import_words.specs.declared.words.Invocation.{Invocation}
use Rattle.import_words.specs.declared.words.Invocation.TheVariants.{Asked, Shown}
use Rattle.line_protocol.specs.declared.faults.StreamFault.{StreamFault}
use Rattle.ncimport.specs.Importing.{ImportsSource}
use Rattle.program_console.specs.Ending.{fault_line}
use Rattle.program_console.specs.Streaming.{Streams, TellsFront}
use Rattle.program_console.specs.declared.ending.Program.TheVariants.{Ncimport}
use Rattle.program_words.specs.declared.source.Source.{Source}

-- A fault was told, or a front of its line where standard error does not take all of it.
abbrev pub EndsByFault : ProgramFault → Streams → Streams → ℕ → Type 0
EndsByFault fault before after status = TellsFront (fault_line Ncimport fault) before after × (status ≡ 1)

-- `creates name` and `opens name` say what may come of making and of opening a file of this name, and `leaves name` what a new one held when it was
-- closed.
module _ (creates : List ℕ → Result (Option (List ℕ)) Error → Type 0) (leaves : List ℕ → Option (List ℕ) → Type 0)
    (opens : List ℕ → Result (Option (List ℕ)) Error → Type 0) where
  -- The filters of a configuration were imported; or a fault ended that, behind what was done before.
  abbrev pub Imports : Importing → Source → Streams → Streams → ℕ → Type 0
  Imports how source before after status = ImportsSource creates leaves opens how source before after status
      ⊎ ((fault : ProgramFault) × (mid : Streams) × EndsByFault fault mid after status)

  -- What was asked for was done, with its status. Words that were shown something have their status, and nothing else is done.
  abbrev pub Responds : Result Invocation StreamFault → Streams → Streams → ℕ → Type 0
  Responds (Ok (Asked how source)) before after status = Imports how source before after status
  Responds (Ok (Shown shown)) before after status = (status ≡ shown) × (after ≡ before)
  Responds (Err fault) before after status = EndsByFault (Stream fault) before after status
