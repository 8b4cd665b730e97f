use Rattle.std.proofs.Common.{◌-◌, ap}
use Rattle.slot_lock.specs.Passes.{PassView}
use Rattle.router_daemon.proofs.Splitting.{legal_rest}
use Rattle.router_daemon.proofs.starting.take_part.Goals as goal

pub returns-clause-legal : goal.returns-clause-legal
returns-clause-legal g c =
    legal_rest c.args.shared.now.router g.J.Naming.router c.args.pass.now c.split.new.pass (c.args.pass.now.fragment.shares - c.args.shares)
    c.args.shared.now.is_named c.requires.legal c.split.ensures.of.0 c.split.ensures.old

pub returns-clause-same : goal.returns-clause-same
returns-clause-same g c =
    (ap (λ (p : PassView). p.fragment.seen) c.split.ensures.old, ap (λ (p : PassView). p.fragment.mine) c.split.ensures.old)
