-- What the program does with two filters that are compared. (This project's own choice.)
use Rattle.std.specs.Prelude.{◌≡◌, ◌⊎◌, ℕ, List, Option, Result}
use Rattle.std.specs.declared.io.Error.{Error}
use Rattle.filter_checks.specs.Comparing.{IsDiffReport}
use Rattle.filter_reports.specs.Reports.{ReportView}
use Rattle.filter_source.specs.Limits.{source_limit}
use Rattle.line_protocol.specs.declared.faults.StreamFault.{StreamFault}
use Rattle.program_console.specs.Commands.{ReportsSource, StopsSource, text_of, unread_report}
use Rattle.program_console.specs.Putting.{CutsPut, Puts}
use Rattle.program_console.specs.Reading.{IsRead, IsUnreadBy, StopsLoading}
use Rattle.program_console.specs.Streaming.{Streams}
use Rattle.program_words.specs.declared.source.Source.{Source}
use Rattle.report_formats.specs.declared.options.DiffOptions.{DiffOptions}

-- `opens name` says what may come of opening a file of this name.
module _ (opens : List ℕ → Result (Option (List ℕ)) Error → Type 0) where
  -- The older filter was read, and this is the report on it and the newer one, which was read behind it; or one of them was not read.
  abbrev pub DiffsSources : DiffOptions → Source → Source → ReportView → Option (List ℕ) → Option (List ℕ) → Type 0
  DiffsSources how old new report known left =
      ((text : List ℕ) × (mid : Option (List ℕ)) × IsRead opens source_limit old text known mid
      × ReportsSource opens (IsDiffReport how (text_of old text)) 3 new report mid left)
      ⊎ ((line : List ℕ) × IsUnreadBy opens source_limit old line known left × (report ≡ unread_report 3 line))

  -- A fault kept one of them from being read, or memory was refused.
  abbrev pub StopsDiff : StreamFault → DiffOptions → Source → Source → Option (List ℕ) → Option (List ℕ) → Type 0
  StopsDiff fault how old new known left = StopsLoading opens fault source_limit old known left
      ⊎ ((text : List ℕ) × (mid : Option (List ℕ)) × IsRead opens source_limit old text known mid
      × StopsSource opens (IsDiffReport how (text_of old text)) 3 fault new mid left)

  -- The report was written.
  abbrev pub ComparesSources : DiffOptions → Source → Source → Streams → Streams → ℕ → Type 0
  ComparesSources how old new before after status = Puts (DiffsSources how old new) before after status

  abbrev pub StopsComparing : StreamFault → DiffOptions → Source → Source → Streams → Streams → Type 0
  StopsComparing fault how old new before after = CutsPut fault (DiffsSources how old new) (StopsDiff fault how old new) before after
