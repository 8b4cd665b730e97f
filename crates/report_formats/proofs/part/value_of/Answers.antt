-- The members, each after those before it.
use Rattle.report_formats.proofs.part.value_of.Goals as goal

pub returns : goal.returns
returns c =
    let after = c.try_member.ensures _ _ c.new.ensures c.text_or_null.ensures in
    let before = c.try_member-2.ensures _ _ after c.text_or_null-2.ensures in
    let greatest = c.member.ensures _ _ before c.from.ensures in
    let least = c.member-2.ensures _ _ greatest c.from-2.ensures in
    let longest = c.member-3.ensures _ _ least c.from-3.ensures in
    let prefix = c.try_member-3.ensures _ _ longest c.text_value.ensures in
    let severity = c.try_member-4.ensures _ _ prefix c.severity_value.ensures in
    let shortest = c.member-4.ensures _ _ severity c.from-4.ensures in
    let words = c.try_member-5.ensures _ _ shortest c.text_value-2.ensures in
    c.finish.ensures _ words
