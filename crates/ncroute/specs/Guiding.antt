-- What the program does for a router's script, which may be started with filters, whose history may be kept, and which may end at its first refused
-- line. (This project's own choice.)
use Rattle.std.specs.Prelude.{◌≡◌, ◌⊎◌, ◌||◌, ℕ, List, Option, Some, None, Result, Ok, Err, is_some, string_bytes, ⊤}
use Rattle.std.specs.Io.KnownBytes.{Appends}
use Rattle.std.specs.declared.io.Error.{Error}
use Rattle.std.specs.declared.string.String.{String}
use Rattle.std.specs.declared.alloc.Global.{Global}
use Rattle.filter_reports.specs.Cuts.{IsCut}
use Rattle.line_protocol.specs.declared.faults.StreamFault.{StreamFault}
use Rattle.line_protocol.specs.declared.faults.StreamFault.TheVariants.{Write}
use Rattle.router_script.specs.Faults.{stream_of}
use Rattle.router_script.specs.Running.{IsSaved, IsSavedInPart}
use Rattle.router_script.specs.declared.fault.SavingFault.TheVariants.{Saver}
use Rattle.router_script.specs.declared.filter_naming.NamedFilter.{NamedFilter}
use Rattle.router_script.specs.declared.filter_naming.Unfit.{Unfit}
use Rattle.command_line.specs.declared.requests.RunOptions.{RunOptions}
use Rattle.ncroute.specs.Filters.{IsCutUnfit, TellsUnfit}
use Rattle.program_console.specs.Reading.{uncreated_line, unwritten_line}
use Rattle.ncroute.specs.Scripts.{IsQuiet, TakesLines}
use Rattle.filter_reports.specs.Reports.{status_of}
use Rattle.program_console.specs.Streaming.{Streams}

-- A script that was started with these filters was carried out, and the exit status says whether a line was refused. Its lines are those of
-- this text, or else of standard input. `kept` and `keeps` are what the saver held before and holds now. Standard error is told nothing where
-- people asked for no words, and the script does not end at a refused line; at last it is told of the filter that is refused, if one is.
pub record RunsSaved (how : RunOptions) (filters : List NamedFilter) (text kept keeps : Option (List ℕ)) (before after : Streams) (status : ℕ)
    : Type 0 where
  pub refused : ℕ
  pub unfit : Option Unfit
  pub mid : Option (List ℕ)
  pub carried_out : TakesLines text (λ input left.
      IsSaved (is_some how.save) how.stops filters input left before.holds after.holds refused kept keeps unfit) before.reads after.reads
  pub quiet : IsQuiet (how.is_explained || how.stops) before.tells mid
  pub told : TellsUnfit filters unfit mid after.tells
  pub ends : status ≡ status_of refused

-- Standard error was told that the file of a history did not get all of it. `stderr_before` is what it held, `stderr_after` what it holds now.
abbrev pub TellsLoss : Option (String Global) → Option (List ℕ) → Option (List ℕ) → Type 0
TellsLoss None stderr_before stderr_after = ⊥
TellsLoss (Some name) stderr_before stderr_after = Appends stderr_before stderr_after (unwritten_line (string_bytes name))

-- A fault cut that. Where there is no file of which to tell, it is that of a failed write.
abbrev pub IsCutLoss : StreamFault → Option (String Global) → Option (List ℕ) → Option (List ℕ) → Type 0
IsCutLoss fault None stderr_before stderr_after = (fault ≡ Write) × (stderr_after ≡ stderr_before)
IsCutLoss fault (Some name) stderr_before stderr_after = IsCut fault stderr_before stderr_after (unwritten_line (string_bytes name))

-- The file of the history did not take what was written to it: the first lines are answered, each of them whole, and at last standard error
-- was told of the file.
pub record LosesHistory (how : RunOptions) (filters : List NamedFilter) (text kept keeps : Option (List ℕ)) (before after : Streams) (status : ℕ)
    : Type 0 where
  pub mid : Option (List ℕ)
  pub left_off : TakesLines text (λ input left.
      IsSavedInPart (stream_of Saver) (is_some how.save) how.stops filters input left before.holds after.holds kept keeps) before.reads after.reads
  pub quiet : IsQuiet (how.is_explained || how.stops) before.tells mid
  pub told : TellsLoss how.save mid after.tells
  pub ends : status ≡ 1

-- a script was carried out, or ended by the file of its history
abbrev pub EndsSaved : RunOptions → List NamedFilter → Option (List ℕ) → Option (List ℕ) → Option (List ℕ) → Streams → Streams → ℕ → Type 0
EndsSaved how filters text kept keeps before after status =
    RunsSaved how filters text kept keeps before after status ⊎ LosesHistory how filters text kept keeps before after status

-- A fault broke it off.
pub record BreaksSaved (fault : StreamFault) (how : RunOptions) (filters : List NamedFilter) (text kept keeps : Option (List ℕ))
    (before after : Streams) : Type 0 where
  pub left_off : TakesLines text (λ input left.
      IsSavedInPart fault (is_some how.save) how.stops filters input left before.holds after.holds kept keeps) before.reads after.reads
  pub quiet : IsQuiet (how.is_explained || how.stops) before.tells after.tells

-- A fault cut what was told of the filter that is refused.
pub record CutsSaved (fault : StreamFault) (how : RunOptions) (filters : List NamedFilter) (text kept keeps : Option (List ℕ))
    (before after : Streams) : Type 0 where
  pub refused : ℕ
  pub unfit : Option Unfit
  pub mid : Option (List ℕ)
  pub carried_out : TakesLines text (λ input left.
      IsSaved (is_some how.save) how.stops filters input left before.holds after.holds refused kept keeps unfit) before.reads after.reads
  pub quiet : IsQuiet (how.is_explained || how.stops) before.tells mid
  pub cut : IsCutUnfit fault filters unfit mid after.tells

-- A fault cut what was told of the file of the history.
pub record CutsLoss (fault : StreamFault) (how : RunOptions) (filters : List NamedFilter) (text kept keeps : Option (List ℕ))
    (before after : Streams) : Type 0 where
  pub mid : Option (List ℕ)
  pub left_off : TakesLines text (λ input left.
      IsSavedInPart (stream_of Saver) (is_some how.save) how.stops filters input left before.holds after.holds kept keeps) before.reads after.reads
  pub quiet : IsQuiet (how.is_explained || how.stops) before.tells mid
  pub cut : IsCutLoss fault how.save mid after.tells

abbrev pub StopsSaved : StreamFault → RunOptions → List NamedFilter → Option (List ℕ) → Option (List ℕ) → Option (List ℕ) → Streams → Streams → Type 0
StopsSaved fault how filters text kept keeps before after =
    BreaksSaved fault how filters text kept keeps before after ⊎ CutsSaved fault how filters text kept keeps before after
    ⊎ CutsLoss fault how filters text kept keeps before after

-- `creates name` says what may come of making a file or a folder of this name: what it holds at first, or why there is none.
module _ {Held : Type 0} (creates : List ℕ → Result (Option Held) Error → Type 0) where
  -- there is none of this name to save to, for which the reason has these words
  abbrev pub IsUncreated : Option (String Global) → List ℕ → List ℕ → Type 0
  IsUncreated None name words = ⊥
  IsUncreated (Some saved) name words = (name ≡ string_bytes saved) × ((error : Error) × creates name (Err error))

-- `leaves name` says what a new file of this name held when it was closed.
module _ (creates : List ℕ → Result (Option (List ℕ)) Error → Type 0) (leaves : List ℕ → Option (List ℕ) → Type 0) where
  -- a saver holds this at first, and that at last: the file of this name, where there is one
  abbrev pub IsSaver : Option (String Global) → Option (List ℕ) → Option (List ℕ) → Type 0
  IsSaver None kept keeps = ⊤
  IsSaver (Some name) kept keeps = creates (string_bytes name) (Ok kept) × leaves (string_bytes name) keeps

  -- A script was carried out, and its history saved, or not all of it, which standard error was told; or the file of the history was not
  -- made, which standard error was told, and no line was answered. Its lines are those of this text, or else of standard input.
  unfoldable pub GuidesScript : RunOptions → List NamedFilter → Option (List ℕ) → Streams → Streams → ℕ → Type 0
  GuidesScript how filters text before after status =
      ((kept : Option (List ℕ)) × (keeps : Option (List ℕ)) × IsSaver how.save kept keeps
      × EndsSaved how filters text kept keeps before after status)
      ⊎ ((name : List ℕ) × (words : List ℕ) × IsUncreated creates how.save name words × Appends before.tells after.tells (uncreated_line name words)
      × (after.reads ≡ before.reads) × (after.holds ≡ before.holds) × (status ≡ 1))

  -- A fault ended it.
  unfoldable pub StopsGuided : StreamFault → RunOptions → List NamedFilter → Option (List ℕ) → Streams → Streams → Type 0
  StopsGuided fault how filters text before after =
      ((kept : Option (List ℕ)) × (keeps : Option (List ℕ)) × IsSaver how.save kept keeps
      × StopsSaved fault how filters text kept keeps before after)
      ⊎ ((name : List ℕ) × (words : List ℕ) × IsUncreated creates how.save name words × IsCut fault before.tells after.tells (uncreated_line name words)
      × (after.reads ≡ before.reads) × (after.holds ≡ before.holds))
