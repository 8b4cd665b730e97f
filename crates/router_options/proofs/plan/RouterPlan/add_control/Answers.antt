-- The control is the last one.
use Rattle.router_options.proofs.Growing.{adds_control}
use Rattle.router_options.proofs.plan.RouterPlan.add_control.Goals as goal

pub returns-clause-added : goal.returns-clause-added
returns-clause-added c =
    adds_control c.args.self.now _ c.args.text.now c.self.view_is c.in_ok-files.files c.push.new.self.items c.in_ok-files.ensures.read
    c.in_ok-push.ensures.items
