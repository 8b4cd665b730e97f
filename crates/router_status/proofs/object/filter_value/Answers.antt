-- The members, each after those before it.
use Rattle.router_status.proofs.object.filter_value.Goals as goal

pub returns : goal.returns
returns c =
    let accepted = c.member.ensures _ _ c.new.ensures c.from.ensures in
    let budget = c.member-2.ensures _ _ accepted c.from-2.ensures in
    let name = c.try_member.ensures _ _ budget c.filter_name.ensures in
    let rejected = c.member-3.ensures _ _ name c.from-3.ensures in
    c.finish.ensures _ rejected
