-- The link is the last one, and the plan stays one.
use Rattle.router_options.proofs.Growing.{adds_link, plan_link}
use Rattle.router_options.proofs.plan.RouterPlan.add_link.Goals as goal

pub invariant_of-self-2 : goal.invariant_of-self-2
invariant_of-self-2 c =
    plan_link c.args.self.now _ c.args.text.now c.self.view_is c.in_ok-link.link c.push.new.self.items c.self.invariant
    c.in_ok-link.ensures.may c.in_ok-push.ensures.items

pub returns-clause-added : goal.returns-clause-added
returns-clause-added c =
    adds_link c.args.self.now _ c.args.text.now c.self.view_is c.in_ok-link.link c.push.new.self.items c.in_ok-link.ensures.may
    c.in_ok-push.ensures.items
