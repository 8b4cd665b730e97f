-- How the filters of a router are read and verified, before it begins. (This project's own choice.)
use Rattle.std.specs.Prelude.{◌≡◌, ◌⊎◌, ℕ, List, Option, Some, None, Result}
use Rattle.std.specs.declared.io.Error.{Error}
use Rattle.line_protocol.specs.declared.faults.StreamFault.{StreamFault}
use Rattle.line_protocol.specs.declared.faults.StreamFault.TheVariants.{Memory}
use Rattle.operator_cmds.specs.Script.{ScriptView, fresh}
use Rattle.operator_cmds.specs.Stages.{Empty}
use Rattle.router_operator.specs.OperatorView.{Names, filter_of}
use Rattle.router_script.specs.Naming.{AreNamed}
use Rattle.router_script.specs.declared.filter_naming.NamedFilter.{NamedFilter}
use Rattle.router_script.specs.declared.filter_naming.Unfit.{Unfit}
use Rattle.program_words.specs.declared.source.Source.{Source}
use Rattle.command_line.specs.declared.filter_words.NamedFile.{NamedFile}
use Rattle.ncroute.specs.Filters.{IsCutUnfit, ReadsFilters, StopsAtFilter, TellsUnfit}
use Rattle.program_console.specs.Reading.{StopsTelling, TellsUnread}
use Rattle.program_console.specs.declared.sources.Unread.{Unread}

-- the filters of names, as a script has them before its first event
abbrev pub script_with : Names → ScriptView
script_with names = record { stage = Empty; filters = filter_of names }

-- Each of these filters is verified for domains of this size, and its name leads to it.
abbrev pub AreLoaded : ℕ → List NamedFilter → Names → Type 0
AreLoaded size given names = AreNamed size given None fresh (script_with names)

-- This one is the first that is refused.
abbrev pub AreUnfit : ℕ → List NamedFilter → Unfit → Type 0
AreUnfit size given unfit = (script : ScriptView) × AreNamed size given (Some unfit) fresh script

-- Standard error was told which one is refused, and why. `stderr_before` is what it held before, `stderr_after` what it holds now.
abbrev pub TellsOfUnfit : ℕ → List NamedFilter → Option (List ℕ) → Option (List ℕ) → Type 0
TellsOfUnfit size given stderr_before stderr_after = (unfit : Unfit) × AreUnfit size given unfit × TellsUnfit given (Some unfit) stderr_before stderr_after

-- A fault kept the filters from being verified, or cut what was told of the one that is refused.
abbrev pub StopsVerifying : StreamFault → ℕ → List NamedFilter → Option (List ℕ) → Option (List ℕ) → Type 0
StopsVerifying fault size given stderr_before stderr_after = ((fault ≡ Memory) × (stderr_after ≡ stderr_before))
    ⊎ ((unfit : Unfit) × AreUnfit size given unfit × IsCutUnfit fault given (Some unfit) stderr_before stderr_after)

-- `opens name` says what may come of opening a file of this name.
module _ (opens : List ℕ → Result (Option (List ℕ)) Error → Type 0) where
  -- The filters were read, in order, each once, and are verified. `known` is what standard input had before, `left` what it has now.
  pub record LoadsFilters (files : List NamedFile) (size : ℕ) (names : Names) (known left : Option (List ℕ)) : Type 0 where
    pub given : List NamedFilter
    pub reads : ReadsFilters opens files given known left
    pub loaded : AreLoaded size given names

  -- One of them was not read, or is refused, which standard error was told.
  abbrev pub LacksFilters : List NamedFile → ℕ → Option (List ℕ) → Option (List ℕ) → Option (List ℕ) → Option (List ℕ) → Type 0
  LacksFilters files size known left stderr_before stderr_after =
      ((source : Source) × (why : Unread) × StopsAtFilter opens files source why known left × TellsUnread source why stderr_before stderr_after)
      ⊎ ((given : List NamedFilter) × ReadsFilters opens files given known left × TellsOfUnfit size given stderr_before stderr_after)

  -- A fault ended it.
  abbrev pub StopsLoading : StreamFault → List NamedFile → ℕ → Option (List ℕ) → Option (List ℕ) → Option (List ℕ) → Option (List ℕ) → Type 0
  StopsLoading fault files size known left stderr_before stderr_after =
      ((source : Source) × (why : Unread) × StopsAtFilter opens files source why known left × StopsTelling fault source why stderr_before stderr_after)
      ⊎ ((given : List NamedFilter) × ReadsFilters opens files given known left × StopsVerifying fault size given stderr_before stderr_after)
