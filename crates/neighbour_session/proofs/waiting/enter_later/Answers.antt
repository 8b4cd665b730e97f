use Rattle.std.proofs.Common.{rules, ◌≡◌}
use Rattle.route_history.specs.Calls.{entry}
use Rattle.route_history.specs.declared.fault.CallFault.TheVariants as fault
use Rattle.route_session.specs.Calls.{receive, stale}
use Rattle.slot_lock.specs.Calls.{Answered, Refused}
use Rattle.neighbour_session.proofs.Calling.{sound_refused}
use Rattle.neighbour_session.proofs.Gaining.{gained_none, sound_both, sound_same}
use Rattle.neighbour_session.proofs.Later.{entered_later, full_again, is_full}
use Rattle.neighbour_session.proofs.waiting.enter_later.Goals as goal

pub loop-init : goal.loop-init
loop-init g c = record {
  next = tt;
  finite = tt;
  pass = sound_same c.args.router.now c.args.pass.now c.requires.of;
  gained = gained_none c.args.pass.now.fragment;
  full = c.requires.full;
}

pub returns-then-is_stale-clause-entered : goal.returns-then-is_stale-clause-entered
returns-then-is_stale-clause-entered g c =
    let answered : Answered c.args.router.now c.loop.pass (receive c.args.session c.args.message) c.in-Ok.answer c.call.new.pass =
    c.in-Ok.ensures.answered in
    let over : c.in-Ok.answer.reply ≡ stale = search rules in (
      entry (receive c.args.session c.args.message) c.in-Ok.answer.reply,
      entered_later c.args.router.now c.args.session c.args.message c.args.pass.now.fragment c.loop.pass c.call.new.pass c.in-Ok.answer
          c.loop.invariant.gained answered c.call.ensures.failed_tries,
      over,
    )

pub returns-in-Ok-clause-entered : goal.returns-in-Ok-clause-entered
returns-in-Ok-clause-entered g c =
    let answered : Answered c.args.router.now c.loop.pass (receive c.args.session c.args.message) c.in-Ok.answer c.call.new.pass =
    c.in-Ok.ensures.answered in
    let fresh : c.in-Ok.answer.reply ≡ stale → ⊥ = search rules in (
      entry (receive c.args.session c.args.message) c.in-Ok.answer.reply,
      entered_later c.args.router.now c.args.session c.args.message c.args.pass.now.fragment c.loop.pass c.call.new.pass c.in-Ok.answer
          c.loop.invariant.gained answered c.call.ensures.failed_tries,
      fresh,
    )

pub loop-preserved : goal.loop-preserved
loop-preserved g c =
    let refused : Refused fault.Full c.args.router.now c.loop.pass c.call.new.pass = rw c.in-Err-Full.field-0-is at
    c.in-Err-Full.ensures.refused in
    record {
      next = tt;
      finite = tt;
      pass = sound_both c.args.router.now c.args.pass.now c.loop.pass c.call.new.pass c.loop.invariant.pass
          (sound_refused c.args.router.now c.loop.pass fault.Full c.call.new.pass c.call.ensures.pass.0 c.call.ensures.own refused);
      gained = full_again c.args.router.now c.args.pass.now.fragment c.loop.pass c.call.new.pass c.loop.invariant.gained refused
          c.call.ensures.failed_tries;
      full = is_full c.args.router.now c.loop.pass c.call.new.pass refused;
    }
