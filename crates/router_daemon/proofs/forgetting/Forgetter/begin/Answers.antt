use Rattle.router_daemon.proofs.SavedWhole.{begun}
use Rattle.router_daemon.proofs.forgetting.Forgetter.begin.Goals as goal

pub invariant_of-result : goal.invariant_of-result
invariant_of-result g c =
    begun g.J.Naming.router c.args.right c.args.opening.now c.args.limit c.from.result c.kept_of-kept.result c.in-Ok.saver c.requires.new
    c.requires.opened.0 c.requires.opened.1 c.requires.opened.2 c.from.ensures c.in-Ok.ensures.begun
