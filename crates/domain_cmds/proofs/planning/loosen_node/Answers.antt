-- The plans between which a plan stayed keep their nodes.
use Rattle.std.proofs.Common.{ap, ◌∙◌}
use Rattle.domain_routes.specs.Still.{BetweenView}
use Rattle.domain_cmds.proofs.Fitting.{anew_size, fit_there}
use Rattle.domain_cmds.proofs.planning.loosen_node.Goals as goal

pub returns-in-Some-clause-fits : goal.returns-in-Some-clause-fits
returns-in-Some-clause-fits c =
    ap (λ (b : BetweenView). b.most.size) c.loosen_node.ensures
    ∙ anew_size c.args.plan.now c.args.u c.in-Some.between
    ∙ fit_there c.args.since.now c.in-Some.between c.args.plan.now.size c.in-Some.is c.requires.fits
