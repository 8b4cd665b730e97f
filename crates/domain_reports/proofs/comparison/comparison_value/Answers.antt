-- The members, each after those before it.
use Rattle.domain_reports.proofs.comparison.comparison_value.Goals as goal

pub returns : goal.returns
returns c =
    let changed = c.try_member.ensures _ _ c.new.ensures c.pairs_value.ensures in
    let failures = c.try_member-2.ensures _ _ changed c.harms_value.ensures in
    let gained = c.try_member-3.ensures _ _ failures c.pairs_value-2.ensures in
    let lost = c.try_member-4.ensures _ _ gained c.pairs_value-3.ensures in
    let size = c.member.ensures _ _ lost c.from.ensures in
    c.finish.ensures _ size
