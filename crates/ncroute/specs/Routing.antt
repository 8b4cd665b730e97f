-- What the program does for `router`, and its exit status. (This project's own choice.)
use Rattle.std.specs.Prelude.{◌≡◌, ◌⊎◌, ℕ, true, false, List, [], ◌∷◌, ◌++◌, Option, Some, None, Result, Ok, IfSome, String, codes, string_bytes, unwrap_or, ⊤}
use Rattle.std.specs.Option.{option_map}
use Rattle.std.specs.Io.KnownBytes.{Appends}
use Rattle.std.specs.declared.io.Error.{Error}
use Rattle.std.specs.declared.alloc.Global.{Global}
use Rattle.filter_reports.specs.Cuts.{IsCut}
use Rattle.filter_reports.specs.Faults.{stream_fault}
use Rattle.history_saver.specs.Codes.{save_code}
use Rattle.history_saver.specs.Folders.{FolderView}
use Rattle.history_saver.specs.Segments.{SegmentsView}
use Rattle.history_saver.specs.declared.fault.SaveFault.{SaveFault}
use Rattle.line_protocol.specs.declared.faults.StreamFault.{StreamFault}
use Rattle.line_protocol.specs.declared.faults.StreamFault.TheVariants.{Memory}
use Rattle.router_daemon.specs.Codes.{fault_code}
use Rattle.router_daemon.specs.Running as daemon
use Rattle.router_daemon.specs.Running.{Fails, RunsAsOne, Saves}
use Rattle.router_daemon.specs.declared.fault.DaemonFault.{DaemonFault}
use Rattle.router_daemon.specs.declared.fault.DaemonFault.TheVariants as fault
use Rattle.router_operator.specs.OperatorView.{Names}
use Rattle.router_options.specs.PlanView.{PlanView}
use Rattle.command_line.specs.declared.router_words.RouterWords.{RouterWords}
use Rattle.ncroute.specs.Guiding.{IsUncreated}
use Rattle.ncroute.specs.Loading.{LacksFilters, LoadsFilters, StopsLoading}
use Rattle.ncroute.specs.Planning.{IsPlanOf, LacksPlan, is_memory}
use Rattle.program_console.specs.Reading.{uncreated_line}
use Rattle.program_console.specs.declared.ending.Program.TheVariants.{Ncroute}
use Rattle.program_console.specs.Ending.{fault_line}
use Rattle.router_words.specs.Stated.{OriginView}
use Rattle.program_console.specs.Streaming.{Streams}
use Rattle.ncroute.specs.WrongWords.{wrong_line}
use Rattle.ncroute.specs.declared.planning.PlanFault.{PlanFault}
use Rattle.ncroute.specs.declared.routing.SetupFault.{SetupFault}
use Rattle.ncroute.specs.declared.routing.SetupFault.TheVariants.{Program, Words}

-- the line that tells of a fault of saving
abbrev pub save_line : SaveFault → List ℕ
save_line fault = codes "ncroute: " ++ save_code fault ++ 10 ∷ []

-- the line that tells of a fault of a router
abbrev pub router_line : DaemonFault → List ℕ
router_line fault = codes "ncroute: " ++ fault_code fault ++ 10 ∷ []

-- the exit status of a router that a fault ended: its operator's lines broke off; the end of its history is not saved; it was not begun
abbrev pub fault_status : DaemonFault → ℕ
fault_status (fault.Stream why) = 3
fault_status (fault.Save why) = 4
fault_status (fault.Call why) = 1
fault_status (fault.Lock why) = 1
fault_status (fault.NotBegun why) = 1
fault_status fault.NotStarted = 1
fault_status fault.Memory = 1

-- the line that tells what kept a router from being set up, and the exit status
abbrev pub setup_line : OriginView → SetupFault → List ℕ
setup_line origin (Words why) = wrong_line origin why
setup_line origin (Program fault) = fault_line Ncroute fault

abbrev pub setup_status : SetupFault → ℕ
setup_status (Words why) = 2
setup_status (Program fault) = 1

-- where the routes are told, if they are to be: the name of the file, and after how many seconds the first table is told at the latest
abbrev pub feed_of : RouterWords → Option (List ℕ × ℕ)
feed_of words = option_map (λ name. (string_bytes name, unwrap_or words.settle 10)) words.routes

-- a folder, of which this is known, has no segments
abbrev pub IsEmpty : Option FolderView → Type 0
IsEmpty folder = IfSome folder (λ v. v.segments ≡ [])

-- `makes name` says what may come of making a folder of this name: what it holds at first, where that is known, or why there is none.
module _ (makes : List ℕ → Result (Option FolderView) Error → Type 0) where
  -- The folder that a history is saved in was made anew, if one is named: what is known of it.
  abbrev pub MakesSave : Option (String Global) → Option (Option FolderView) → Type 0
  MakesSave None kept = kept ≡ None
  MakesSave (Some name) kept = (held : Option FolderView) × (kept ≡ Some held) × makes (string_bytes name) (Ok held)

  -- It was not made, which standard error was told.
  abbrev pub LacksSave : Option (String Global) → Option (List ℕ) → Option (List ℕ) → Type 0
  LacksSave save stderr_before stderr_after = (name : List ℕ) × (words : List ℕ) × IsUncreated makes save name words × Appends stderr_before stderr_after (uncreated_line name words)

  -- A fault cut what was told of it.
  abbrev pub CutsSave : StreamFault → Option (String Global) → Option (List ℕ) → Option (List ℕ) → Type 0
  CutsSave fault save stderr_before stderr_after =
      (name : List ℕ) × (words : List ℕ) × IsUncreated makes save name words × IsCut fault stderr_before stderr_after (uncreated_line name words)

  -- `opens name` says what may come of opening a file of this name.
  module _ (opens : List ℕ → Result (Option (List ℕ)) Error → Type 0) where
    -- What a router of this plan is run with is there: its filters were read, in order, and are verified, and then the folder of its history
    -- was made. Nothing was written or told.
    pub record FitsOut (words : RouterWords) (plan : PlanView) (names : Names) (kept : Option (Option FolderView)) (before after : Streams)
        : Type 0 where
      pub loads : LoadsFilters opens words.filters.items plan.opening.size names before.reads after.reads
      pub saves : MakesSave words.save kept
      pub holds : after.holds ≡ before.holds
      pub tells : after.tells ≡ before.tells

    -- One of its filters was not read or is refused; or the folder was not made. Standard error was told, and nothing was written.
    abbrev pub LacksParts : RouterWords → PlanView → Streams → Streams → Type 0
    LacksParts words plan before after = (after.holds ≡ before.holds)
        × (LacksFilters opens words.filters.items plan.opening.size before.reads after.reads before.tells after.tells
        ⊎ ((names : Names) × LoadsFilters opens words.filters.items plan.opening.size names before.reads after.reads
        × LacksSave words.save before.tells after.tells))

    -- A fault ended it, and nothing was written.
    abbrev pub StopsParts : StreamFault → RouterWords → PlanView → Streams → Streams → Type 0
    StopsParts fault words plan before after = (after.holds ≡ before.holds)
        × (StopsLoading opens fault words.filters.items plan.opening.size before.reads after.reads before.tells after.tells
        ⊎ ((names : Names) × LoadsFilters opens words.filters.items plan.opening.size names before.reads after.reads
        × CutsSave fault words.save before.tells after.tells))

    -- The words tell this plan, and what it is run with is there.
    pub record SetsUp (words : RouterWords) (plan : PlanView) (names : Names) (kept : Option (Option FolderView)) (before after : Streams)
        : Type 0 where
      pub planned : IsPlanOf words plan
      pub fits : FitsOut words plan names kept before after

    -- The words tell a plan, but something that it is run with is not there, which standard error was told.
    abbrev pub LacksSetting : RouterWords → Streams → Streams → Type 0
    LacksSetting words before after = (plan : PlanView) × IsPlanOf words plan × LacksParts words plan before after

    -- A fault of the program ended it.
    abbrev pub StopsProgram : StreamFault → RouterWords → Streams → Streams → Type 0
    StopsProgram fault words before after =
        ((why : PlanFault) × LacksPlan words why × (is_memory why ≡ true) × (fault ≡ Memory) × (after ≡ before))
        ⊎ ((plan : PlanView) × IsPlanOf words plan × StopsParts fault words plan before after)

    -- The words tell no plan, and memory is not why: nothing was read, and nothing told yet. Or a fault of the program ended it.
    abbrev pub StopsSettingUp : SetupFault → RouterWords → Streams → Streams → Type 0
    StopsSettingUp (Words why) words before after = LacksPlan words why × (is_memory why ≡ false) × (after ≡ before)
    StopsSettingUp (Program fault) words before after = StopsProgram (stream_fault fault) words before after

-- The operator's lines ended so, at a router of this plan.
abbrev pub Operated : PlanView → Names → Streams → Streams → Result ℕ StreamFault → Type 0
Operated plan names before after answered = IfSome before.reads (λ input.
    daemon.Operated plan names answered input after.reads before.holds after.holds)

-- The folder of a name, in which a history was saved, was left as it was saved. `keeps name` says what a folder of this name held when it was
-- left, where that is known.
abbrev pub LeavesSave : (List ℕ → Option FolderView → Type 0) → Option (String Global) → Option SegmentsView → Type 0
LeavesSave keeps (Some name) (Some s) = keeps (string_bytes name) s.folder
LeavesSave keeps _ _ = ⊤

-- A router of this plan was run to its end, and its history is saved, if it is to be, in the folder of that name: all of it that is kept, and
-- with it each call of the operator, with the reply that was answered.
pub record RunsToEnd (keeps : List ℕ → Option FolderView → Type 0) (save : Option (String Global)) (plan : PlanView) (names : Names)
    (kept : Option (Option FolderView)) (before after : Streams) : Type 0 where
  pub refused : ℕ
  pub saver : Option SegmentsView
  pub operated : IfSome before.reads (λ input. RunsAsOne plan names kept saver refused input after.reads before.holds after.holds)
  pub saved : Saves plan kept saver
  pub left : LeavesSave keeps save saver
  pub quiet : after.tells ≡ before.tells

-- A fault ended it, and `TellsLine told stderr_after line` says what standard error was told of the line of the fault. The exit status tells which.
pub record EndsInFault (TellsLine : Option (List ℕ) → Option (List ℕ) → List ℕ → Type 0) (plan : PlanView) (names : Names)
    (before after : Streams) (status : ℕ) : Type 0 where
  pub why : DaemonFault
  pub ended : status ≡ fault_status why
  pub fails : Fails (Operated plan names before after) ((after.reads ≡ before.reads) × (after.holds ≡ before.holds)) why
  pub told : TellsLine before.tells after.tells (router_line why)

-- It ran to its end, and the exit status is 0; or a fault ended it, of which the whole line was told.
abbrev pub RunsPlan : (List ℕ → Option FolderView → Type 0) → Option (String Global) → PlanView → Names → Option (Option FolderView)
    → Streams → Streams → ℕ → Type 0
RunsPlan keeps save plan names kept before after status = (RunsToEnd keeps save plan names kept before after × (status ≡ 0))
    ⊎ EndsInFault Appends plan names before after status

-- A fault ended it, and another one cut what standard error was told of that.
abbrev pub CutsPlan : StreamFault → PlanView → Names → Streams → Streams → ℕ → Type 0
CutsPlan cut plan names before after status = EndsInFault (IsCut cut) plan names before after status

-- `opens name` says what may come of opening a file of this name, `makes name` what may come of making a folder of this name, and `keeps name`
-- what one held when it was left.
module _ (opens : List ℕ → Result (Option (List ℕ)) Error → Type 0) (makes : List ℕ → Result (Option FolderView) Error → Type 0)
    (keeps : List ℕ → Option FolderView → Type 0) where
  -- It was set up as words say, all of it, and then ran so: `Ran plan names kept before after`.
  abbrev pub SetUpRan : (PlanView → Names → Option (Option FolderView) → Streams → Streams → Type 0) → RouterWords → Streams → Streams → Type 0
  SetUpRan Ran words before after = (plan : PlanView) × (names : Names) × (kept : Option (Option FolderView)) × (mid : Streams)
      × SetsUp makes opens words plan names kept before mid × Ran plan names kept mid after

  -- It was not set up, for want of something that it is run with.
  abbrev pub LacksRouter : RouterWords → Streams → Streams → ℕ → Type 0
  LacksRouter words before after status = LacksSetting makes opens words before after × (status ≡ 1)

  -- A fault kept it from being set up, and `TellsLine told tells line` says what standard error was told of the line of the fault. `origin` is
  -- the file that says some of the words.
  abbrev pub StopsRouter : (Option (List ℕ) → Option (List ℕ) → List ℕ → Type 0) → OriginView → RouterWords → Streams → Streams → ℕ → Type 0
  StopsRouter TellsLine origin words before after status = (fault : SetupFault) × (mid : Streams)
      × StopsSettingUp makes opens fault words before mid × TellsLine mid.tells after.tells (setup_line origin fault)
      × (after.reads ≡ mid.reads) × (after.holds ≡ mid.holds) × (status ≡ setup_status fault)

  -- A router was run as words say: it was set up first, all of it, and then run; or it was not set up, and no line was answered. Standard
  -- error was told why, the whole line.
  unfoldable pub ServesRouter : OriginView → RouterWords → Streams → Streams → ℕ → Type 0
  ServesRouter origin words before after status = SetUpRan (λ plan names kept mid end. RunsPlan keeps words.save plan names kept mid end status) words before after
      ⊎ (LacksRouter words before after status ⊎ StopsRouter Appends origin words before after status)

  -- It ended with a line, and a fault cut what standard error was told of that one.
  unfoldable pub CutsRouter : StreamFault → OriginView → RouterWords → Streams → Streams → ℕ → Type 0
  CutsRouter cut origin words before after status =
      SetUpRan (λ plan names kept mid end. CutsPlan cut plan names mid end status) words before after
      ⊎ StopsRouter (IsCut cut) origin words before after status
