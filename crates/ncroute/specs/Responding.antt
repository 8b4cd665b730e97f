-- What the program does for the words of its command line, and its exit status. (This project's own choice.)
use Rattle.std.specs.Prelude.{◌≡◌, ◌⊎◌, ℕ, List, Option, Result, Ok, Err}
use Rattle.std.specs.declared.io.Error.{Error}
use Rattle.command_line.specs.declared.words.Invocation.{Invocation}
use Rattle.command_line.specs.declared.words.Invocation.TheVariants.{Asked, Network, Router, Shown}
use Rattle.filter_reports.specs.declared.fault.ProgramFault.TheVariants.{Stream}
use Rattle.history_saver.specs.Folders.{FolderView}
use Rattle.line_protocol.specs.declared.faults.StreamFault.{StreamFault}
use Rattle.program_console.specs.declared.ending.Program.TheVariants.{Ncroute}
use Rattle.program_console.specs.Ending.{fault_line}
use Rattle.ncroute.specs.Networking.{FailsToReportNetwork, ServesNetwork}
use Rattle.ncroute.specs.Requests.{FailsToReport, Serves, fault_status}
use Rattle.ncroute.specs.Configured.{CutsConfigured, ServesConfigured}
use Rattle.program_console.specs.Streaming.{Streams, TellsFront}

-- What was asked for was served, with its status; where standard error did not take the whole line of a fault, the status is that of a fault.
-- Words that were shown something have their status, and nothing else is done. `opens name` and `creates name` say what may come of opening
-- and of making a file of this name, and `leaves name` what a new one held when it was closed; `makes name` and `keeps name` say the same of a
-- folder of segments that is made and left.
module _ (opens creates : List ℕ → Result (Option (List ℕ)) Error → Type 0) (leaves : List ℕ → Option (List ℕ) → Type 0)
    (makes : List ℕ → Result (Option FolderView) Error → Type 0) (keeps : List ℕ → Option FolderView → Type 0) where
  abbrev pub Responds : Result Invocation StreamFault → Streams → Streams → ℕ → Type 0
  Responds (Ok (Asked what)) before after status = Serves opens creates leaves what before after status
      ⊎ (FailsToReport opens creates leaves what before after × (status ≡ fault_status what))
  Responds (Ok Network) before after status = ServesNetwork before after status
      ⊎ (FailsToReportNetwork before after × (status ≡ 1))
  Responds (Ok (Router words)) before after status = ServesConfigured opens makes keeps words before after status
      ⊎ ((cut : StreamFault) × CutsConfigured opens makes keeps cut words before after status)
  Responds (Ok (Shown shown)) before after status = (status ≡ shown) × (after ≡ before)
  Responds (Err fault) before after status = (status ≡ 1) × TellsFront (fault_line Ncroute (Stream fault)) before after
