use Rattle.std.proofs.Common.{◌-◌}
use Rattle.domain_cmds.proofs.without.+routes_without_links.Given as goal

-- fewer nodes are left
abbrev pub decreases-routes_without_links : goal.decreases-routes_without_links
decreases-routes_without_links l = l.plan.now.size - l.w
