use Rattle.std.proofs.Common.{◌≡◌, ◌++◌, map}
use Rattle.bstr.specs.Text.{lines_of, without_terminator}
use Rattle.serde_json.specs.View.{view}
use Rattle.domain_reports.specs.Reports.{text_data}
use Rattle.domain_reports.proofs.lists.lines_value.Given as goal

-- the lines so far, and those that are left
abbrev pub invariant-loop-line : goal.invariant-loop-line
invariant-loop-line l =
    map view l.list.items ++ map text_data l.line-iterator ≡ map text_data (map without_terminator (lines_of l.fn.text))
