-- The members, each after those before it.
use Rattle.report_formats.proofs.finding.value_of.Goals as goal

pub returns : goal.returns
returns c =
    let code = c.try_member.ensures _ _ c.new.ensures c.text_or_null.ensures in
    let column = c.member.ensures _ _ code c.number_or_null.ensures in
    let file = c.try_member-2.ensures _ _ column c.text_value.ensures in
    let line = c.member-2.ensures _ _ file c.number_or_null-2.ensures in
    let severity = c.try_member-3.ensures _ _ line c.severity_value.ensures in
    let words = c.try_member-4.ensures _ _ severity c.text_value-2.ensures in
    c.finish.ensures _ words
