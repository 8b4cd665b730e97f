-- How a router ends that was not set up, and its exit status.
use Rattle.std.proofs.Common.{◌≡◌, ℕ, List, Option, Result, Ok, Err, IfOk, IfErr, inr}
use Rattle.std.specs.Prelude.{String}
use Rattle.std.specs.declared.alloc.Global.{Global}
use Rattle.std.specs.Io.KnownBytes.{Appends}
use Rattle.std.specs.declared.io.Error.{Error}
use Rattle.filter_reports.specs.Cuts.{IsCut}
use Rattle.filter_reports.specs.Faults.{stream_fault}
use Rattle.history_saver.specs.Folders.{FolderView}
use Rattle.router_daemon.specs.Running.{Fails}
use Rattle.line_protocol.specs.declared.faults.StreamFault.{StreamFault}
use Rattle.router_daemon.specs.declared.fault.DaemonFault.{DaemonFault}
use Rattle.router_daemon.specs.declared.fault.DaemonFault.TheVariants as fault
use Rattle.router_operator.specs.OperatorView.{Names}
use Rattle.router_options.specs.PlanView.{PlanView}
use Rattle.command_line.specs.declared.router_words.RouterWords.{RouterWords}
use Rattle.ncroute.specs.Routing.{CutsPlan, Operated, RunsPlan, ServesRouter, StopsSettingUp, fault_status, router_line, setup_line, setup_status}
use Rattle.router_words.specs.Stated.{OriginView}
use Rattle.program_console.specs.Streaming.{Streams}
use Rattle.ncroute.specs.declared.routing.SetupFault.{SetupFault}
use Rattle.ncroute.specs.declared.routing.Unreported.{Unreported}

-- it was not set up, and the result says what was told of that
module _ (opens : List ℕ → Result (Option (List ℕ)) Error → Type 0) (makes : List ℕ → Result (Option FolderView) Error → Type 0)
    (keeps : List ℕ → Option FolderView → Type 0) (origin : OriginView) (words : RouterWords) where
  pub stopped : {T : Type 0} (result : Result ℕ T) (before mid after : Streams) (why : SetupFault)
      → StopsSettingUp makes opens why words before mid
      → IfOk result (λ status. (status ≡ setup_status why) × Appends mid.tells after.tells (setup_line origin why)) → after.reads ≡ mid.reads
      → after.holds ≡ mid.holds → IfOk result (ServesRouter opens makes keeps origin words before after)
  unfolding ServesRouter
  stopped (Ok status) before mid after why stops told reads holds = inr (inr (why, mid, stops, told.1, reads, holds, told.0))
  stopped (Err cut) before mid after why stops told reads holds = tt

-- where its streams were left as they were, nothing was read and nothing written
pub untouched : (operated : Result ℕ StreamFault → Type 0) (P Q : Type 0) → (P → Q) → (why : DaemonFault) → Fails operated P why
    → Fails operated Q why
untouched operated P Q follows (fault.Stream why) fails = fails
untouched operated P Q follows (fault.Save why) fails = fails
untouched operated P Q follows (fault.Call why) fails = follows fails
untouched operated P Q follows (fault.Lock why) fails = follows fails
untouched operated P Q follows (fault.NotBegun why) fails = follows fails
untouched operated P Q follows fault.NotStarted fails = follows fails
untouched operated P Q follows fault.Memory fails = follows fails

-- a fault ended it, and standard error was told of that: the whole line, or a front of it
module _ (plan : PlanView) (names : Names) (before after : Streams) (why : DaemonFault)
    (fails : Fails (Operated plan names before after) ((after.reads ≡ before.reads) × (after.holds ≡ before.holds)) why) where
  pub faulted : (keeps : List ℕ → Option FolderView → Type 0) (save : Option (String Global)) (kept : Option (Option FolderView)) (result : Result ℕ Unreported)
      → IfOk result (λ status. (status ≡ fault_status why) × Appends before.tells after.tells (router_line why))
      → IfOk result (RunsPlan keeps save plan names kept before after)
  faulted keeps save kept (Ok status) told = inr (record { why = why; ended = told.0; fails = fails; told = told.1 })
  faulted keeps save kept (Err unreported) told = tt

  pub cut_short : (result : Result ℕ Unreported)
      → IfErr result (λ unreported. (unreported.status ≡ fault_status why) × IsCut (stream_fault unreported.why) before.tells after.tells (router_line why))
      → IfErr result (λ unreported. CutsPlan (stream_fault unreported.why) plan names before after unreported.status)
  cut_short (Ok status) cut = tt
  cut_short (Err unreported) cut = record { why = why; ended = cut.0; fails = fails; told = cut.1 }
