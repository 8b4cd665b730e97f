use Rattle.slot_lock.proofs.Sound.{sound_after}
use Rattle.slot_lock.proofs.router.Router.try_call.Goals as goal

pub invariant_of-pass-2 : goal.invariant_of-pass-2
invariant_of-pass-2 c =
    sound_after c.pass.inside.seat.me c.try_acquire.new.seat.me c.enter.new.seat.me c.args.event c.enter.result c.pass.inside.shares c.pass.invariant
    c.if-not-try_acquire.ensures.tried c.enter.ensures.entered c.enter.ensures.refused

pub returns-clause-own : goal.returns-clause-own
returns-clause-own c =
    let sound = sound_after c.pass.inside.seat.me c.try_acquire.new.seat.me c.enter.new.seat.me c.args.event c.enter.result c.pass.inside.shares
    c.pass.invariant c.if-not-try_acquire.ensures.tried c.enter.ensures.entered c.enter.ensures.refused in sound.own
