-- What the program does for `router --check`, and its exit status. (This project's own choice.)
use Rattle.std.specs.Prelude.{◌≡◌, ◌⊎◌, ℕ, Bool, true, false, List, Option, Result}
use Rattle.std.specs.Io.KnownBytes.{Appends}
use Rattle.std.specs.declared.io.Error.{Error}
use Rattle.filter_reports.specs.Cuts.{IsCut}
use Rattle.filter_reports.specs.Faults.{stream_fault}
use Rattle.history_saver.specs.Folders.{FolderView}
use Rattle.line_protocol.specs.declared.faults.StreamFault.{StreamFault}
use Rattle.line_protocol.specs.declared.faults.StreamFault.TheVariants.{Memory}
use Rattle.router_operator.specs.OperatorView.{Names}
use Rattle.router_options.specs.PlanView.{PlanView}
use Rattle.command_line.specs.declared.router_words.RouterWords.{RouterWords}
use Rattle.ncroute.specs.Loading.{LacksFilters, LoadsFilters, StopsLoading}
use Rattle.ncroute.specs.Planning.{IsPlanOf, LacksPlan, is_memory}
use Rattle.ncroute.specs.Routing.{CutsRouter, ServesRouter, setup_line, setup_status}
use Rattle.router_words.specs.Stated.{OriginView}
use Rattle.program_console.specs.Streaming.{Streams}
use Rattle.ncroute.specs.declared.planning.PlanFault.{PlanFault}
use Rattle.ncroute.specs.declared.routing.SetupFault.{SetupFault}
use Rattle.ncroute.specs.declared.routing.SetupFault.TheVariants.{Program, Words}

-- `opens name` says what may come of opening a file of this name. In all of this nothing is written.
module _ (opens : List ℕ → Result (Option (List ℕ)) Error → Type 0) where
  -- The filters that words name were read, and all are verified for the domain of this plan: nothing was told. Or standard error was told of
  -- the first that is not.
  abbrev pub ChecksFilters : RouterWords → PlanView → Streams → Streams → Bool → Type 0
  ChecksFilters words plan before after true = (names : Names) × (after.holds ≡ before.holds) × (after.tells ≡ before.tells)
      × LoadsFilters opens words.filters.items plan.opening.size names before.reads after.reads
  ChecksFilters words plan before after false = (after.holds ≡ before.holds)
      × LacksFilters opens words.filters.items plan.opening.size before.reads after.reads before.tells after.tells

  -- A fault ended it.
  abbrev pub StopsFilters : StreamFault → RouterWords → PlanView → Streams → Streams → Type 0
  StopsFilters fault words plan before after = (after.holds ≡ before.holds)
      × StopsLoading opens fault words.filters.items plan.opening.size before.reads after.reads before.tells after.tells

  -- Words tell a plan, and their filters are right or not.
  abbrev pub ChecksWords : RouterWords → Streams → Streams → Bool → Type 0
  ChecksWords words before after is_right = (plan : PlanView) × IsPlanOf words plan × ChecksFilters words plan before after is_right

  -- They tell none, and memory is not why; or a fault of the program ended it.
  abbrev pub StopsChecking : SetupFault → RouterWords → Streams → Streams → Type 0
  StopsChecking (Words why) words before after = LacksPlan words why × (is_memory why ≡ false) × (after ≡ before)
  StopsChecking (Program fault) words before after =
      ((why : PlanFault) × LacksPlan words why × (is_memory why ≡ true) × (stream_fault fault ≡ Memory) × (after ≡ before))
      ⊎ ((plan : PlanView) × IsPlanOf words plan × StopsFilters (stream_fault fault) words plan before after)

  -- It ended with a line, of which `TellsLine told tells line` says what standard error was told. `origin` is the file that says some of the words.
  abbrev pub StopsCheck : (Option (List ℕ) → Option (List ℕ) → List ℕ → Type 0) → OriginView → RouterWords → Streams → Streams → ℕ → Type 0
  StopsCheck TellsLine origin words before after status = (fault : SetupFault) × (mid : Streams) × StopsChecking fault words before mid
      × TellsLine mid.tells after.tells (setup_line origin fault)
      × (after.reads ≡ mid.reads) × (after.holds ≡ mid.holds) × (status ≡ setup_status fault)

  -- All is right, with status 0, or a filter is not, with status 1; or it ended with a line, which was told whole.
  unfoldable pub ChecksRouter : OriginView → RouterWords → Streams → Streams → ℕ → Type 0
  ChecksRouter origin words before after status = (ChecksWords words before after true × (status ≡ 0))
      ⊎ ((ChecksWords words before after false × (status ≡ 1)) ⊎ StopsCheck Appends origin words before after status)

  -- A fault cut the line.
  unfoldable pub CutsCheck : StreamFault → OriginView → RouterWords → Streams → Streams → ℕ → Type 0
  CutsCheck cut origin words before after status = StopsCheck (IsCut cut) origin words before after status

-- what is asked for where words are looked at alone, and otherwise
abbrev pub either : Bool → Type 0 → Type 0 → Type 0
either true Checks Runs = Checks
either false Checks Runs = Runs

-- `makes name` says what may come of making a folder of this name, and `keeps name` what one held when it was left.
module _ (opens : List ℕ → Result (Option (List ℕ)) Error → Type 0) (makes : List ℕ → Result (Option FolderView) Error → Type 0)
    (keeps : List ℕ → Option FolderView → Type 0) where
  -- The router of words was run, or what they say was looked at alone.
  abbrev pub ServesWords : OriginView → RouterWords → Streams → Streams → ℕ → Type 0
  ServesWords origin words before after status =
      either words.checks (ChecksRouter opens origin words before after status) (ServesRouter opens makes keeps origin words before after status)

  -- It ended with a line, and a fault cut what standard error was told of that one.
  abbrev pub CutsWords : StreamFault → OriginView → RouterWords → Streams → Streams → ℕ → Type 0
  CutsWords cut origin words before after status =
      either words.checks (CutsCheck opens cut origin words before after status) (CutsRouter opens makes keeps cut origin words before after status)
