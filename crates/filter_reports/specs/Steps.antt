-- What is between lines and what is written. (This project's own choice.)
use Rattle.filter_reports.specs.Check.{LinesView}
use Rattle.filter_reports.specs.Checking.{refusals_of}
use Rattle.filter_reports.specs.declared.lines.Lines.{Lines}

-- what a contract sees of lines
abbrev pub lines_of : Lines → LinesView
lines_of lines = record { text = lines.text.items; refusals = refusals_of lines.diagnosis }
