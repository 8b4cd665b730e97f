use Rattle.domain_cmds.specs.Texts.{route_in}
use Rattle.domain_cmds.proofs.text.+push_way.Given as goal

-- each next hop is nearer
abbrev pub decreases-push_way : goal.decreases-push_way
decreases-push_way l = (route_in l.plan.now.size l.routes.now l.u).dist
