-- The members, each after those before it.
use Rattle.domain_reports.proofs.domain.reach_value.Goals as goal

pub returns : goal.returns
returns c =
    let longest = c.member.ensures _ _ c.new.ensures c.from.ensures in
    let phases = c.member-2.ensures _ _ longest c.from-2.ensures in
    c.finish.ensures _ phases
