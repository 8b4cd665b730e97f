use Rattle.slot_lock.proofs.SoundMerged.{sound_merged}
use Rattle.slot_lock.proofs.router.Router.join.Goals as goal

pub invariant_of-pass : goal.invariant_of-pass
invariant_of-pass c =
    sound_merged c.pass.inside.seat.me c.other.inside.seat.me.0 c.merge.new.seat.me c.pass.inside.shares c.other.inside.shares
    c.pass.invariant c.other.invariant.own c.other.invariant.shares c.merge.ensures.merged

pub returns-clause-own : goal.returns-clause-own
returns-clause-own c =
    let sound = sound_merged c.pass.inside.seat.me c.other.inside.seat.me.0 c.merge.new.seat.me c.pass.inside.shares c.other.inside.shares
    c.pass.invariant c.other.invariant.own c.other.invariant.shares c.merge.ensures.merged in sound.own
