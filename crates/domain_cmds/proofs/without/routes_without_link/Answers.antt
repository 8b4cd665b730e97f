-- The plan that was cut, and that which is mended.
use Rattle.std.proofs.Common.{◌∙◌}
use Rattle.domain_cmds.proofs.without.routes_without_link.Goals as goal

pub columns_after_cuts-all-requires : goal.columns_after_cuts-all-requires
columns_after_cuts-all-requires c = record { whole = c.args.plan.now; fewer = c.cut.ensures.fewer; all = c.requires.before }

pub returns-clause-same : goal.returns-clause-same
returns-clause-same c = c.link.ensures ∙ c.cut.ensures.back c.requires.linked
