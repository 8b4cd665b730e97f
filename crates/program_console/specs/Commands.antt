-- A command on whole texts. (This project's own choice.)
use Rattle.std.specs.Prelude.{◌≡◌, ◌⊎◌, ℕ, List, [], Option, Result}
use Rattle.std.specs.declared.io.Error.{Error}
use Rattle.filter_reports.specs.Notices.{Named}
use Rattle.filter_reports.specs.Reports.{ReportView}
use Rattle.filter_source.specs.Limits.{source_limit}
use Rattle.line_protocol.specs.declared.faults.StreamFault.{StreamFault}
use Rattle.line_protocol.specs.declared.faults.StreamFault.TheVariants.{Memory}
use Rattle.program_words.specs.declared.source.Source.{Source}
use Rattle.program_console.specs.Ending.{worst_status}
use Rattle.program_console.specs.Following.{CutsLater, DoesAll}
use Rattle.program_console.specs.Putting.{CutsPut, Puts}
use Rattle.program_console.specs.Reading.{IsRead, IsUnreadBy, StopsLoading, name_of}
use Rattle.program_console.specs.Streaming.{Streams}

-- the report on a source that was not read: the line that tells why, with this exit status
abbrev pub unread_report : ℕ → List ℕ → ReportView
unread_report status line = record { out = []; err = line; status = status }

-- a source and what was read of it
abbrev pub text_of : Source → List ℕ → Named
text_of source text = record { name = name_of source; text = text }

-- `opens name` says what may come of opening a file of this name. `IsReport text report` says which report a command makes on a text, and `unread` is
-- the exit status where there is none.
module _ (opens : List ℕ → Result (Option (List ℕ)) Error → Type 0) (IsReport : Named → ReportView → Type 0) (unread : ℕ) where
  -- This is its report on a source: that on its text; or it says that this was not read.
  abbrev pub ReportsSource : Source → ReportView → Option (List ℕ) → Option (List ℕ) → Type 0
  ReportsSource source report known left =
      ((text : List ℕ) × IsRead opens source_limit source text known left × IsReport (text_of source text) report)
      ⊎ ((line : List ℕ) × IsUnreadBy opens source_limit source line known left × (report ≡ unread_report unread line))

  -- There is none: standard input was not read, or memory was refused.
  abbrev pub StopsSource : StreamFault → Source → Option (List ℕ) → Option (List ℕ) → Type 0
  StopsSource fault source known left = StopsLoading opens fault source_limit source known left
      ⊎ ((text : List ℕ) × IsRead opens source_limit source text known left × (fault ≡ Memory))

  -- It was made and written, and the exit status is its own.
  abbrev pub RunsOn : Source → Streams → Streams → ℕ → Type 0
  RunsOn source before after status = Puts (ReportsSource source) before after status

  abbrev pub CutsOn : StreamFault → Source → Streams → Streams → Type 0
  CutsOn fault source before after = CutsPut fault (ReportsSource source) (StopsSource fault source) before after

  -- The same of one source after others, with the exit status of all so far.
  abbrev pub RunsNext : ℕ → Source → Streams → Streams → ℕ → Type 0
  RunsNext earlier source before after status = (one : ℕ) × RunsOn source before after one × (status ≡ worst_status earlier one)

  -- It was done with each of some sources, in order.
  abbrev pub RunsOnAll : List Source → Streams → Streams → ℕ → Type 0
  RunsOnAll sources before after status = DoesAll 0 RunsNext sources before after status

  -- A fault ended that.
  abbrev pub CutsOnAll : StreamFault → List Source → Streams → Streams → Type 0
  CutsOnAll fault sources before after = CutsLater 0 RunsNext (λ earlier. CutsOn fault) sources before after
