-- How a report is written. (This project's own choice.)
use Rattle.std.specs.Prelude.{◌≡◌, ◌⊎◌, ℕ, List, Option}
use Rattle.std.specs.Io.KnownBytes.{Appends}
use Rattle.filter_reports.specs.Reports.{ReportView}
use Rattle.line_protocol.specs.Runs.{AppendsFront}
use Rattle.line_protocol.specs.declared.faults.StreamFault.{StreamFault}
use Rattle.line_protocol.specs.declared.faults.StreamFault.TheVariants.{Write}
use Rattle.program_console.specs.Streaming.{Streams}

-- It was written, and that is all.
pub record TakesReport (report : ReportView) (before after : Streams) : Type 0 where
  pub written : Appends before.holds after.holds report.out
  pub told : Appends before.tells after.tells report.err
  pub reads : after.reads ≡ before.reads

-- A stream failed: `out` was cut, and nothing was told; or `out` was written, and `err` was cut.
abbrev pub CutsStreams : ReportView → Streams → Streams → Type 0
CutsStreams report before after = (AppendsFront before.holds after.holds report.out × (after.tells ≡ before.tells))
    ⊎ (Appends before.holds after.holds report.out × AppendsFront before.tells after.tells report.err)

pub record CutsReport (fault : StreamFault) (report : ReportView) (before after : Streams) : Type 0 where
  pub is_write : fault ≡ Write
  pub cut : CutsStreams report before after
  pub reads : after.reads ≡ before.reads

-- `Makes report known left` says which report is made, of what standard input had, `known`, and has then, `left`. It was made and written, and this is
-- its exit status.
pub record Puts (Makes : ReportView → Option (List ℕ) → Option (List ℕ) → Type 0) (before after : Streams) (status : ℕ) : Type 0 where
  pub report : ReportView
  pub makes : Makes report before.reads after.reads
  pub written : Appends before.holds after.holds report.out
  pub told : Appends before.tells after.tells report.err
  pub ends : status ≡ report.status

-- None was made, and nothing was written; `Stops known left` says why.
pub record StopsMaking (Stops : Option (List ℕ) → Option (List ℕ) → Type 0) (before after : Streams) : Type 0 where
  pub stops : Stops before.reads after.reads
  pub holds : after.holds ≡ before.holds
  pub tells : after.tells ≡ before.tells

-- It was made, and a stream failed.
pub record CutsPutting (fault : StreamFault) (Makes : ReportView → Option (List ℕ) → Option (List ℕ) → Type 0) (before after : Streams) : Type 0 where
  pub report : ReportView
  pub makes : Makes report before.reads after.reads
  pub is_write : fault ≡ Write
  pub cut : CutsStreams report before after

-- A fault ended that: none was made, or a stream failed.
abbrev pub CutsPut : StreamFault → (ReportView → Option (List ℕ) → Option (List ℕ) → Type 0) → (Option (List ℕ) → Option (List ℕ) → Type 0)
    → Streams → Streams → Type 0
CutsPut fault Makes Stops before after = StopsMaking Stops before after ⊎ CutsPutting fault Makes before after
