-- The members, each after those before it.
use Rattle.domain_reports.proofs.link.link_value.Goals as goal

pub returns : goal.returns
returns c =
    let exports = c.try_member.ensures _ _ c.new.ensures c.ends_value.ensures in
    let imports = c.try_member-2.ensures _ _ exports c.ends_value-2.ensures in
    let link = c.try_member-3.ensures _ _ imports c.pair_value.ensures in
    c.finish.ensures _ link
