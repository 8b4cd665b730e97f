-- The use is the last one, and the plan stays one.
use Rattle.router_options.proofs.Growing.{adds_import, plan_import}
use Rattle.router_options.proofs.plan.RouterPlan.add_import.Goals as goal

pub invariant_of-self-2 : goal.invariant_of-self-2
invariant_of-self-2 c =
    plan_import c.args.self.now _ c.args.text.now c.self.view_is c.in_ok-used.used c.as_slice.result.now c.push.new.self.items c.self.invariant
    c.as_slice.ensures.value c.in_ok-used.ensures.may c.in_ok-push.ensures.items

pub returns-clause-added : goal.returns-clause-added
returns-clause-added c =
    adds_import c.args.self.now _ c.args.text.now c.self.view_is c.in_ok-used.used c.as_slice.result.now c.push.new.self.items
    c.as_slice.ensures.value c.in_ok-used.ensures.may c.in_ok-push.ensures.items
