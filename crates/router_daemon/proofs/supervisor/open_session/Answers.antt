use Rattle.std.proofs.Common.{◌∙◌, inl, refl, subst, sym, true}
use Rattle.slot_lock.specs.Passes.{IsPassOf, RouterView}
use Rattle.router_daemon.proofs.FullCalls.{full_of, opens_later, opens_never, waited_more}
use Rattle.router_daemon.proofs.supervisor.open_session.Goals as goal

pub loop-init : goal.loop-init
loop-init g c = record { next = tt; finite = tt; of = c.requires; shares = refl; waited = inl refl }

pub returns-in-Ok-clause-opened : goal.returns-in-Ok-clause-opened
returns-in-Ok-clause-opened g c =
    opens_later c.args.shared.now.router g.J.Naming.router c.args.link.now.files.node c.args.pass.now c.loop.pass c.in-Ok.opened.0
    c.in-Ok.opened.1 c.enter_up.new.pass c.args.shared.now.is_named c.loop.invariant.waited c.in-Ok.ensures.opened
