-- What a command says of what it has read. (This project's own choice.)
use Rattle.std.specs.Prelude.{◌==◌, ◌++◌, ℕ, Bool, List, if◌then◌else◌}
use Rattle.filter_reports.specs.declared.report.Report.{Report}

-- what stands on standard output and on standard error, and the exit status
pub record ReportView : Type 0 where
  pub out : List ℕ
  pub err : List ℕ
  pub status : ℕ

abbrev pub report_of : Report → ReportView
report_of report = record { out = report.out.items; err = report.err.items; status = report.status }

-- a report and what another one says behind it
abbrev pub followed_by : ReportView → ReportView → ReportView
followed_by first later = record { out = first.out ++ later.out; err = first.err ++ later.err; status = first.status }

-- the exit status by the number of refused lines
abbrev pub status_of : ℕ → ℕ
status_of refused = if refused == 0 then 0 else 1

-- the exit status by whether something was found
abbrev pub status_of_found : Bool → ℕ
status_of_found found = if found then 1 else 0
