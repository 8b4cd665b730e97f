-- The members, each after those before it.
use Rattle.domain_reports.proofs.failure.failure_value.Goals as goal

pub returns-in-Link : goal.returns-in-Link
returns-in-Link c =
    let changed = c.member.ensures _ _ c.new.ensures c.from.ensures in
    let link = c.try_member.ensures _ _ changed c.pair_value.ensures in
    let lost = c.member-in-Link.ensures _ _ link c.from-in-Link.ensures in
    let moved = c.member-in-Link-2.ensures _ _ lost c.from-in-Link-2.ensures in
    let rounds = c.member-in-Link-3.ensures _ _ moved c.from-in-Link-3.ensures in
    let still = c.member-in-Link-4.ensures _ _ rounds c.from-in-Link-4.ensures in
    rw c.in-Link.is (c.finish.ensures _ still)

pub returns-in-Node : goal.returns-in-Node
returns-in-Node c =
    let changed = c.member-in-Node.ensures _ _ c.new-in-Node.ensures c.from-in-Node.ensures in
    let lost = c.member-in-Node-2.ensures _ _ changed c.from-in-Node-2.ensures in
    let moved = c.member-in-Node-3.ensures _ _ lost c.from-in-Node-3.ensures in
    let node = c.member-in-Node-4.ensures _ _ moved c.from-in-Node-4.ensures in
    let rounds = c.member-in-Node-5.ensures _ _ node c.from-in-Node-5.ensures in
    let still = c.member-in-Node-6.ensures _ _ rounds c.from-in-Node-6.ensures in
    rw c.in-Node.is (c.finish-in-Node.ensures _ still)
