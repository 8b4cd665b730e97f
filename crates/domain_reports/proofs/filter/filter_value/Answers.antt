-- The members, each after those before it.
use Rattle.domain_reports.proofs.filter.filter_value.Goals as goal

pub returns : goal.returns
returns c =
    let budget = c.member.ensures _ _ c.new.ensures c.from.ensures in
    let depth = c.member-2.ensures _ _ budget c.from-2.ensures in
    let effects = c.try_member.ensures _ _ depth (rw c.as_slice.ensures.value at c.effects_value.ensures) in
    let line = c.member-3.ensures _ _ effects c.from-3.ensures in
    let listing = c.try_member-2.ensures _ _ line c.lines_value.ensures in
    let name = c.try_member-3.ensures _ _ listing c.text_value.ensures in
    let text = c.try_member-4.ensures _ _ name c.text_or_null.ensures in
    c.finish.ensures _ text
