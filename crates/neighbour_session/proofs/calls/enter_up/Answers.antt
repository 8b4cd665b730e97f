use Rattle.std.proofs.Common.{◌≡◌, ℕ}
use Rattle.netchange_core.specs.declared.event.Event.TheVariants as event
use Rattle.netchange_core.specs.declared.reply.Reply.TheVariants as reply
use Rattle.slot_lock.specs.Calls.{Answered}
use Rattle.neighbour_session.proofs.Calling.{opens_none, sound_answered}
use Rattle.neighbour_session.proofs.calls.enter_up.Goals as goal

pub returns-in_default : goal.returns-in_default
returns-in_default g c =
    let answered : Answered c.args.router.now c.args.pass.now (event.Up c.args.node) c.in-Ok.answer c.call.new.pass = c.in-Ok.ensures.answered in
    let other : (s : ℕ) → c.in-Ok.answer.reply ≡ reply.Opened s → ⊥ = c.in_default.not-Opened in
    record {
      pass = sound_answered c.args.router.now c.args.pass.now (event.Up c.args.node) c.in-Ok.answer c.call.new.pass c.call.ensures.pass.0
          c.call.ensures.own answered;
      shares = c.call.ensures.pass.1;
      opened = tt;
      refused = opens_none c.args.router.now c.args.node c.args.pass.now c.in-Ok.answer c.call.new.pass answered other;
    }
