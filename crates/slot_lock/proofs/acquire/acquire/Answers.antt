use Rattle.std.proofs.Common.{◌∙◌, ◌+◌}
use Rattle.slot_lock.proofs.Trying.{one_more_try}
use Rattle.slot_lock.proofs.acquire.acquire.Goals as goal

pub loop-preserved : goal.loop-preserved
loop-preserved g c = record {
  next = tt;
  finite = tt;
  at = c.try_acquire.ensures.at ∙ c.loop.invariant.at;
  tries = c.loop.invariant.tries + 1;
  tried = one_more_try c.args.seat.now.me c.loop.seat.me c.try_acquire.new.seat.me c.loop.invariant.tries
      c.loop.invariant.tried c.if-try_acquire.ensures.tried;
}
