-- The name is the last one.
use Rattle.router_options.proofs.Growing.{adds_filter}
use Rattle.router_options.proofs.plan.RouterPlan.add_filter.Goals as goal

pub returns-clause-added : goal.returns-clause-added
returns-clause-added c =
    adds_filter c.args.self.now _ c.args.name.now c.self.view_is c.in_ok-filter.filter c.push.new.self.items c.in_ok-filter.ensures.ok
    c.in_ok-push.ensures.items
