-- The members, each after those before it.
use Rattle.domain_reports.proofs.failure.failures_value.Goals as goal

pub returns : goal.returns
returns c =
    let links = c.try_member.ensures _ _ c.new.ensures c.list_value.ensures in
    let nodes = c.try_member-2.ensures _ _ links c.list_value-2.ensures in
    c.finish.ensures _ nodes
