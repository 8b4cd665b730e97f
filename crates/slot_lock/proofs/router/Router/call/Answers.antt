use Rattle.slot_lock.proofs.Sound.{sound_after_tries}
use Rattle.slot_lock.proofs.router.Router.call.Goals as goal

pub invariant_of-pass : goal.invariant_of-pass
invariant_of-pass g c =
    sound_after_tries c.pass.inside.seat.me c.acquire.new.seat.me c.enter.new.seat.me c.args.event c.enter.result c.pass.inside.shares
    c.pass.invariant c.acquire.ensures.acquired c.enter.ensures.entered c.enter.ensures.refused

pub returns-clause-own : goal.returns-clause-own
returns-clause-own g c =
    let sound = sound_after_tries c.pass.inside.seat.me c.acquire.new.seat.me c.enter.new.seat.me c.args.event c.enter.result
    c.pass.inside.shares c.pass.invariant c.acquire.ensures.acquired c.enter.ensures.entered c.enter.ensures.refused in sound.own
