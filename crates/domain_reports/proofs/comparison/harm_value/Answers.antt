-- The members, each after those before it.
use Rattle.domain_reports.proofs.comparison.harm_value.Goals as goal

pub returns-in-Link : goal.returns-in-Link
returns-in-Link c =
    let keeps = c.member.ensures _ _ c.new.ensures c.from.ensures in
    let link = c.try_member.ensures _ _ keeps c.pair_value.ensures in
    let loses = c.member-in-Link.ensures _ _ link c.from-in-Link.ensures in
    rw c.in-Link.is (c.finish.ensures _ loses)

pub returns-in-Node : goal.returns-in-Node
returns-in-Node c =
    let keeps = c.member-in-Node.ensures _ _ c.new-in-Node.ensures c.from-in-Node.ensures in
    let loses = c.member-in-Node-2.ensures _ _ keeps c.from-in-Node-2.ensures in
    let node = c.member-in-Node-3.ensures _ _ loses c.from-in-Node-3.ensures in
    rw c.in-Node.is (c.finish-in-Node.ensures _ node)
