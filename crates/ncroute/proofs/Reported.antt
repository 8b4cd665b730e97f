-- How a report is written by a function of a program that made it before.
use Rattle.std.proofs.Common.{◌≡◌, ℕ, List, Option, inr, subst, sym}
use Rattle.std.specs.Io.KnownBytes.{Appends}
use Rattle.filter_reports.specs.Reports.{ReportView}
use Rattle.line_protocol.specs.declared.faults.StreamFault.{StreamFault}
use Rattle.program_console.specs.Putting.{CutsPut, CutsReport, CutsStreams, Puts, TakesReport}
use Rattle.program_console.specs.Streaming.{Streams}

-- `left` is what standard input has behind that.
module _ (Makes : ReportView → Option (List ℕ) → Option (List ℕ) → Type 0) (report : ReportView) (known before after : Streams) (left : Option (List ℕ)) where
  pub was_put : (status : ℕ) → known ≡ before → Makes report known.reads left
      → TakesReport report (record { reads = left; holds = known.holds; tells = known.tells }) after → status ≡ report.status
      → Puts Makes before after status
  was_put status same makes done ends = record {
    report = report;
    makes = subst (λ (now : Option (List ℕ)). Makes report before.reads now) (sym done.reads)
        (subst (λ (s : Streams). Makes report s.reads left) same makes);
    written = subst (λ (s : Streams). Appends s.holds after.holds report.out) same done.written;
    told = subst (λ (s : Streams). Appends s.tells after.tells report.err) same done.told;
    ends = ends;
  }

  pub was_cut : (fault : StreamFault) (Stops : Option (List ℕ) → Option (List ℕ) → Type 0) → known ≡ before → Makes report known.reads left
      → CutsReport fault report (record { reads = left; holds = known.holds; tells = known.tells }) after → CutsPut fault Makes Stops before after
  was_cut fault Stops same makes cut = inr (record {
    report = report;
    makes = subst (λ (now : Option (List ℕ)). Makes report before.reads now) (sym cut.reads)
        (subst (λ (s : Streams). Makes report s.reads left) same makes);
    is_write = cut.is_write;
    cut = subst (λ (s : Streams). CutsStreams report s after) same cut.cut;
  })
