-- No link is cut yet.
use Rattle.domain_cmds.proofs.Reusing.{were_all}
use Rattle.domain_cmds.proofs.without.routes_without_node.Goals as goal

pub routes_without_links-requires-clause-before : goal.routes_without_links-requires-clause-before
routes_without_links-requires-clause-before c = were_all c.args.plan.now c.args.before.now c.requires.before
