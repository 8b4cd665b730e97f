-- What the program does for what it is asked, and its exit status. (This project's own choice.)
use Rattle.std.specs.Prelude.{◌≡◌, ◌⊎◌, ℕ, Bool, List, Option, IfSome, Result, string_bytes, ⊤}
use Rattle.std.specs.declared.io.Error.{Error}
use Rattle.command_line.specs.declared.requests.Request.{Request}
use Rattle.command_line.specs.declared.requests.Request.TheVariants as request
use Rattle.filter_lint.specs.Checking.{IsCheckReport}
use Rattle.filter_lint.specs.Linting.{IsLintReport}
use Rattle.filter_reports.specs.Faults.{stream_fault}
use Rattle.filter_reports.specs.Listing.{IsListReport}
use Rattle.filter_reports.specs.Notices.{Named, words_if}
use Rattle.filter_reports.specs.Reports.{ReportView, status_of}
use Rattle.filter_reports.specs.Rewriting.{IsRewriteReport}
use Rattle.filter_reports.specs.declared.fault.ProgramFault.{ProgramFault}
use Rattle.line_protocol.specs.declared.faults.StreamFault.{StreamFault}
use Rattle.program_console.specs.Commands.{CutsOn, CutsOnAll, RunsOn, RunsOnAll}
use Rattle.program_console.specs.Ending.{fault_line}
use Rattle.program_console.specs.Putting.{CutsPut, Puts}
use Rattle.program_console.specs.Streaming.{CutsWriting, Streams, Tells, TellsFront, Writes}
use Rattle.program_console.specs.declared.ending.Program.TheVariants.{Ncroute}
use Rattle.program_words.specs.declared.source.Source.TheVariants.{Input}
use Rattle.route_answers.specs.Evaluation.{Breaks, Evaluates}
use Rattle.route_answers.specs.WatchedRoutes.{IsQuiet}
use Rattle.ncroute.specs.Comparing.{ComparesSources, StopsComparing}
use Rattle.ncroute.specs.Domains.{ComparesDomains, StopsDomains}
use Rattle.ncroute.specs.Joining.{RunsGuided, StopsRun}
use Rattle.ncroute.specs.Paging.{PagesSource}
use Rattle.ncroute.specs.Replaying.{ReplaysSources, StopsSources as StopsReplay}
use Rattle.ncroute.specs.Scripts.{RunsSource, StopsSource}
use Rattle.ncroute.specs.Testing.{StopsTesting, TestsSources}
use Rattle.ncroute.specs.Trying.{StopsFilter, TriesFilter}

-- Code and routes were answered to the end of the input. Standard error got nothing, but where words about lines are wanted: what it got
-- of these is left open.
pub record EvaluatesLines (tells_people : Bool) (before after : Streams) (status : ℕ) : Type 0 where
  pub refused : ℕ
  pub evaluated : IfSome before.reads (λ input. Evaluates input after.reads before.holds after.holds refused)
  pub quiet : IsQuiet tells_people before.tells after.tells
  pub ends : status ≡ status_of refused

-- A fault ended that.
pub record StopsEvaluating (fault : StreamFault) (tells_people : Bool) (before after : Streams) : Type 0 where
  pub broken_off : IfSome before.reads (λ input. Breaks fault input after.reads before.holds after.holds)
  pub quiet : IsQuiet tells_people before.tells after.tells

-- what `rewrite` says of a text
abbrev pub rewrites : Bool → Named → ReportView → Type 0
rewrites is_old source report = IsRewriteReport is_old source.text report

-- The exit status where a fault of the machine ended what was asked for: 1 where a command always had it, and otherwise one of its own, so
-- that it differs from a refusal.
abbrev pub fault_status : Request → ℕ
fault_status (request.Check how sources) = 1
fault_status (request.Compare format old new is_explained) = 3
fault_status (request.Diff how old new) = 3
fault_status (request.Domain source is_explained) = 3
fault_status (request.Eval tells_people) = 1
fault_status (request.Explain page) = 1
fault_status (request.List size is_code source is_explained) = 3
fault_status (request.Filter how source) = 3
fault_status (request.Lint how sources) = 3
fault_status (request.Page source is_explained page) = 3
fault_status (request.Replay sources) = 3
fault_status (request.Rewrite is_old) = 1
fault_status (request.Run how sources) = 1
fault_status (request.Test how sources) = 3

-- `opens name` says what may come of opening a file of this name.
module _ (opens : List ℕ → Result (Option (List ℕ)) Error → Type 0) where
  -- `creates name` says what may come of making a file of this name: what it holds at first, or why there is none. `leaves name` says what a
  -- new file of this name held when it was closed.
  module _ (creates : List ℕ → Result (Option (List ℕ)) Error → Type 0) (leaves : List ℕ → Option (List ℕ) → Type 0) where
    -- What was asked for was done to its end, with this exit status.
    abbrev pub Answers : Request → Streams → Streams → ℕ → Type 0
    Answers (request.Check how sources) before after status = RunsOnAll opens (IsCheckReport how) 1 sources.items before after status
    Answers (request.Compare format old new is_explained) before after status =
        ComparesDomains opens format old new is_explained before after status
    Answers (request.Diff how old new) before after status = ComparesSources opens how old new before after status
    Answers (request.Domain source is_explained) before after status = RunsSource opens source is_explained before after status
    Answers (request.Eval tells_people) before after status = EvaluatesLines tells_people before after status
    Answers (request.Explain page) before after status = Writes (string_bytes page) before after × (status ≡ 0)
    Answers (request.List size is_code source is_explained) before after status =
        RunsOn opens (IsListReport size is_code (words_if is_explained)) 3 source before after status
    Answers (request.Filter how source) before after status = TriesFilter opens how source before after status
    Answers (request.Lint how sources) before after status = RunsOnAll opens (IsLintReport how) 3 sources.items before after status
    Answers (request.Page source is_explained page) before after status =
        PagesSource opens creates leaves source is_explained (string_bytes page) before after status
    Answers (request.Replay sources) before after status = Puts (ReplaysSources opens sources.items) before after status
    Answers (request.Rewrite is_old) before after status = RunsOn opens (rewrites is_old) 1 Input before after status
    Answers (request.Run how sources) before after status = RunsGuided creates leaves opens how sources.items before after status
    Answers (request.Test how sources) before after status = TestsSources opens how sources.items before after status

    -- A fault ended it. Of a page nothing more is said.
    abbrev pub StopsAnswer : StreamFault → Request → Streams → Streams → Type 0
    StopsAnswer fault (request.Check how sources) before after = CutsOnAll opens (IsCheckReport how) 1 fault sources.items before after
    StopsAnswer fault (request.Compare format old new is_explained) before after = StopsDomains format before.holds after.holds
    StopsAnswer fault (request.Diff how old new) before after = StopsComparing opens fault how old new before after
    StopsAnswer fault (request.Domain source is_explained) before after = StopsSource opens fault source is_explained before after
    StopsAnswer fault (request.Eval tells_people) before after = StopsEvaluating fault tells_people before after
    StopsAnswer fault (request.Explain page) before after = CutsWriting fault (string_bytes page) before after
    StopsAnswer fault (request.List size is_code source is_explained) before after =
        CutsOn opens (IsListReport size is_code (words_if is_explained)) 3 fault source before after
    StopsAnswer fault (request.Filter how source) before after = StopsFilter opens fault how source before after
    StopsAnswer fault (request.Lint how sources) before after = CutsOnAll opens (IsLintReport how) 3 fault sources.items before after
    StopsAnswer fault (request.Page source is_explained page) before after = ⊤
    StopsAnswer fault (request.Replay sources) before after = CutsPut fault (ReplaysSources opens sources.items) (StopsReplay opens fault sources.items) before after
    StopsAnswer fault (request.Rewrite is_old) before after = CutsOn opens (rewrites is_old) 1 fault Input before after
    StopsAnswer fault (request.Run how sources) before after = StopsRun creates leaves opens fault how sources.items before after
    StopsAnswer fault (request.Test how sources) before after = StopsTesting opens fault how sources.items before after

    -- A fault ended it, and `TellsLine line mid after` says what standard error was then told of the line of the fault.
    pub record EndsByFault (TellsLine : List ℕ → Streams → Streams → Type 0) (what : Request) (before after : Streams) : Type 0 where
      pub fault : ProgramFault
      pub mid : Streams
      pub stopped : StopsAnswer (stream_fault fault) what before mid
      pub told : TellsLine (fault_line Ncroute fault) mid after

    -- What was asked for ended with this exit status: it was done to its end; or a fault ended it, which standard error was told, and the
    -- status is that of a fault.
    abbrev pub Serves : Request → Streams → Streams → ℕ → Type 0
    Serves what before after status =
        Answers what before after status ⊎ (EndsByFault Tells what before after × (status ≡ fault_status what))

    -- A fault ended it, and standard error did not take the whole line.
    abbrev pub FailsToReport : Request → Streams → Streams → Type 0
    FailsToReport what before after = EndsByFault TellsFront what before after
