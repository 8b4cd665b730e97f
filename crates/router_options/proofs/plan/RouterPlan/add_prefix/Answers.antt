-- The node is noted, and the plan stays one.
use Rattle.router_options.proofs.Growing.{plan_prefix}
use Rattle.router_options.proofs.plan.RouterPlan.add_prefix.Goals as goal

pub invariant_of-self-2 : goal.invariant_of-self-2
invariant_of-self-2 c =
    plan_prefix c.args.self.now _ c.args.text.now c.self.view_is c.in_ok-node.field-0 c.set_prefix.new.self c.push.new.self.items _
    c.self.invariant c.in_ok-node.ensures.may c.set_prefix.ensures c.in_ok-push.ensures.items
