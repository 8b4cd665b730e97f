use Rattle.std.proofs.Common.{rules, ◌≡◌, ◌+◌, ◌<◌, ap, refl, Ok, Err, arith}
use Rattle.route_history.specs.declared.fault.CallFault.TheVariants as fault
use Rattle.route_session.specs.declared.ends.Cause.TheVariants as cause
use Rattle.route_session.specs.declared.link.Got.TheVariants as got
use Rattle.route_session.specs.Calls.{receive, stale}
use Rattle.route_session.specs.Links.{Received}
use Rattle.route_session.specs.LinkTrace.{LinkTrace}
use Rattle.route_session.proofs.Gaining.{called}
use Rattle.route_session.proofs.Reading.{begins_reading, ends_refused, ends_stale, reads_on, reads_nothing}
use Rattle.route_session.proofs.Turning.{no_turn_read, read_cut_off, read_held_back, read_message, read_nothing, read_so_far}
use Rattle.slot_lock.specs.Calls.{Answered, Refused}
use Rattle.route_session.proofs.reader.read_session.Goals as goal

pub loop-turn-init : goal.loop-turn-init
loop-turn-init g c = record {
  pass = c.requires;
  reading = begins_reading c.args.router.now c.args.session c.args.pass.now (g.L.Link.trace c.args.link.now) c.requires;
  turned = no_turn_read (g.G.Gate.may_answer c.args.gate.now c.args.job) (g.L.Link.trace c.args.link.now);
  room = omega arith;
}

pub loop-turn-preserved : goal.loop-turn-preserved
loop-turn-preserved g c =
    let handed : Received (g.L.Link.trace c.loop-turn.link) (Ok (got.Message c.in-Ok-Message.message))
    (g.L.Link.trace c.recv.new.self) = search rules in
    let answered : Answered c.args.router.now c.loop-turn.pass
    (receive c.args.session c.in-Ok-Message.message) c.in-Ok.answer c.call.new.pass =
    c.in-Ok.ensures.answered in
    let fresh : c.in-Ok.answer.reply ≡ stale → ⊥ = search rules in
    record {
      pass = c.in-Ok.ensures.pass.0;
      reading = reads_on c.args.router.now c.args.session c.args.pass.now (g.L.Link.trace c.args.link.now) c.loop-turn.entered
          c.loop-turn.pass c.call.new.pass (g.L.Link.trace c.loop-turn.link)
          (g.L.Link.trace c.recv.new.self) c.in-Ok-Message.message c.in-Ok.answer
          c.loop-turn.invariant.reading handed answered
          (called c.args.router.now c.loop-turn.pass c.call.new.pass c.call.ensures.pass c.call.ensures.own c.call.ensures.failed_tries)
          fresh;
      turned = read_message (g.G.Gate.may_answer c.args.gate.now c.args.job) c.loop-turn.turn c.loop-turn.entered
          (g.L.Link.trace c.args.link.now) (g.L.Link.trace c.loop-turn.link) (g.L.Link.trace c.recv.new.self) c.in-Ok-Message.message
          c.loop-turn.invariant.turned (search rules) handed;
      room = omega arith;
    }

pub loop-turn-preserved-then-not-may_go : goal.loop-turn-preserved-then-not-may_go
loop-turn-preserved-then-not-may_go g c = record {
  pass = c.loop-turn.invariant.pass;
  reading = c.loop-turn.invariant.reading;
  turned = read_held_back (g.G.Gate.may_answer c.args.gate.now c.args.job) c.loop-turn.turn c.loop-turn.entered
      (g.L.Link.trace c.args.link.now) (g.L.Link.trace c.loop-turn.link) c.loop-turn.invariant.turned c.if-not-may_go.ensures;
  room = omega arith;
}

pub loop-turn-preserved-in-Ok-Nothing : goal.loop-turn-preserved-in-Ok-Nothing
loop-turn-preserved-in-Ok-Nothing g c =
    let none : Received (g.L.Link.trace c.loop-turn.link) (Ok got.Nothing) (g.L.Link.trace c.recv.new.self) = search rules in
    record {
      pass = c.loop-turn.invariant.pass;
      reading = reads_nothing c.args.router.now c.args.session c.args.pass.now (g.L.Link.trace c.args.link.now) c.loop-turn.entered
          c.loop-turn.pass (g.L.Link.trace c.loop-turn.link) (g.L.Link.trace c.recv.new.self) c.loop-turn.invariant.reading none;
      turned = read_nothing (g.G.Gate.may_answer c.args.gate.now c.args.job) c.loop-turn.turn c.loop-turn.entered
          (g.L.Link.trace c.args.link.now) (g.L.Link.trace c.loop-turn.link) (g.L.Link.trace c.recv.new.self)
          c.loop-turn.invariant.turned (search rules) none;
      room = omega arith;
    }

pub returns-then-is_stale-clause-read : goal.returns-then-is_stale-clause-read
returns-then-is_stale-clause-read g c =
    let handed : Received (g.L.Link.trace c.loop-turn.link) (Ok (got.Message c.in-Ok-Message.message))
    (g.L.Link.trace c.recv.new.self) = search rules in
    let answered : Answered c.args.router.now c.loop-turn.pass
    (receive c.args.session c.in-Ok-Message.message) c.in-Ok.answer c.call.new.pass =
    c.in-Ok.ensures.answered in
    let is_stale : c.in-Ok.answer.reply ≡ stale = search rules in
    rw c.ended-then-is_stale.ensures
    (ends_stale c.args.router.now c.args.session c.args.pass.now (g.L.Link.trace c.args.link.now) c.loop-turn.entered
    c.loop-turn.pass c.call.new.pass (g.L.Link.trace c.loop-turn.link) (g.L.Link.trace c.recv.new.self) c.in-Ok-Message.message c.in-Ok.answer
    c.loop-turn.invariant.reading handed answered
    (called c.args.router.now c.loop-turn.pass c.call.new.pass c.call.ensures.pass c.call.ensures.own c.call.ensures.failed_tries)
    is_stale)

pub returns-in-Err-Full-clause-read : goal.returns-in-Err-Full-clause-read
returns-in-Err-Full-clause-read g c =
    let handed : Received (g.L.Link.trace c.loop-turn.link) (Ok (got.Message c.in-Ok-Message.message))
    (g.L.Link.trace c.recv.new.self) = search rules in
    let refused : Refused fault.Full c.args.router.now c.loop-turn.pass c.call.new.pass = rw c.in-Err-Full.field-0-is at
    c.in-Err-Full.ensures.refused in
    rw c.ended-in-Err-Full.ensures
    (ends_refused c.args.router.now c.args.session c.args.pass.now (g.L.Link.trace c.args.link.now) c.loop-turn.entered
    c.loop-turn.pass c.call.new.pass (g.L.Link.trace c.loop-turn.link) (g.L.Link.trace c.recv.new.self) c.in-Ok-Message.message fault.Full
    c.loop-turn.invariant.reading handed refused
    (called c.args.router.now c.loop-turn.pass c.call.new.pass c.call.ensures.pass c.call.ensures.own c.call.ensures.failed_tries))

pub returns-in-Err-Memory-clause-read : goal.returns-in-Err-Memory-clause-read
returns-in-Err-Memory-clause-read g c =
    let handed : Received (g.L.Link.trace c.loop-turn.link) (Ok (got.Message c.in-Ok-Message.message))
    (g.L.Link.trace c.recv.new.self) = search rules in
    let refused : Refused fault.Memory c.args.router.now c.loop-turn.pass c.call.new.pass = rw c.in-Err-Memory.field-0-is at
    c.in-Err-Memory.ensures.refused in
    rw c.ended-in-Err-Memory.ensures
    (ends_refused c.args.router.now c.args.session c.args.pass.now (g.L.Link.trace c.args.link.now) c.loop-turn.entered
    c.loop-turn.pass c.call.new.pass (g.L.Link.trace c.loop-turn.link) (g.L.Link.trace c.recv.new.self) c.in-Ok-Message.message fault.Memory
    c.loop-turn.invariant.reading handed refused
    (called c.args.router.now c.loop-turn.pass c.call.new.pass c.call.ensures.pass c.call.ensures.own c.call.ensures.failed_tries))

pub returns-in-Ok-Ended-clause-turns : goal.returns-in-Ok-Ended-clause-turns
returns-in-Ok-Ended-clause-turns g c =
    let end : Received (g.L.Link.trace c.loop-turn.link) (Ok got.Ended)
    (g.L.Link.trace c.recv.new.self) = search rules in
    let within : c.loop-turn.turn < c.args.turns = search rules in
    rw c.ended.ensures
    (read_cut_off (g.G.Gate.may_answer c.args.gate.now c.args.job) c.args.turns c.loop-turn.turn c.loop-turn.entered (g.L.Link.trace c.args.link.now)
    (g.L.Link.trace c.loop-turn.link) (g.L.Link.trace c.recv.new.self) cause.LinkEnded refl within c.loop-turn.invariant.turned (search rules)
    (ap (λ (w : LinkTrace). w.nothings) end))

pub returns-in-Err-clause-turns : goal.returns-in-Err-clause-turns
returns-in-Err-clause-turns g c =
    let fault : Received (g.L.Link.trace c.loop-turn.link) (Err c.in-Err.field-0)
    (g.L.Link.trace c.recv.new.self) = search rules in
    let within : c.loop-turn.turn < c.args.turns = search rules in
    rw c.ended-in-Err.ensures
    (read_cut_off (g.G.Gate.may_answer c.args.gate.now c.args.job) c.args.turns c.loop-turn.turn c.loop-turn.entered (g.L.Link.trace c.args.link.now)
    (g.L.Link.trace c.loop-turn.link) (g.L.Link.trace c.recv.new.self) cause.LinkFault refl within c.loop-turn.invariant.turned (search rules)
    (ap (λ (w : LinkTrace). w.nothings) fault.1.only))

pub returns-then-is_stale-clause-turns : goal.returns-then-is_stale-clause-turns
returns-then-is_stale-clause-turns g c =
    let handed : Received (g.L.Link.trace c.loop-turn.link) (Ok (got.Message c.in-Ok-Message.message))
    (g.L.Link.trace c.recv.new.self) = search rules in
    let within : c.loop-turn.turn < c.args.turns = search rules in
    rw c.ended-then-is_stale.ensures
    (read_so_far (g.G.Gate.may_answer c.args.gate.now c.args.job) c.args.turns (c.loop-turn.turn + 1) (c.loop-turn.entered + 1)
    (g.L.Link.trace c.args.link.now) (g.L.Link.trace c.recv.new.self) cause.Stale refl (omega arith) (λ by_turns. absurd cc)
    (read_message (g.G.Gate.may_answer c.args.gate.now c.args.job) c.loop-turn.turn c.loop-turn.entered (g.L.Link.trace c.args.link.now)
    (g.L.Link.trace c.loop-turn.link) (g.L.Link.trace c.recv.new.self) c.in-Ok-Message.message c.loop-turn.invariant.turned (search rules) handed))

pub returns-in-Err-Full-clause-turns : goal.returns-in-Err-Full-clause-turns
returns-in-Err-Full-clause-turns g c =
    let handed : Received (g.L.Link.trace c.loop-turn.link) (Ok (got.Message c.in-Ok-Message.message))
    (g.L.Link.trace c.recv.new.self) = search rules in
    let within : c.loop-turn.turn < c.args.turns = search rules in
    rw c.ended-in-Err-Full.ensures
    (read_cut_off (g.G.Gate.may_answer c.args.gate.now c.args.job) c.args.turns c.loop-turn.turn c.loop-turn.entered (g.L.Link.trace c.args.link.now)
    (g.L.Link.trace c.loop-turn.link) (g.L.Link.trace c.recv.new.self) cause.Full refl within c.loop-turn.invariant.turned (search rules)
    (ap (λ (w : LinkTrace). w.nothings) handed.1))

pub returns-in-Err-Memory-clause-turns : goal.returns-in-Err-Memory-clause-turns
returns-in-Err-Memory-clause-turns g c =
    let handed : Received (g.L.Link.trace c.loop-turn.link) (Ok (got.Message c.in-Ok-Message.message))
    (g.L.Link.trace c.recv.new.self) = search rules in
    let within : c.loop-turn.turn < c.args.turns = search rules in
    rw c.ended-in-Err-Memory.ensures
    (read_cut_off (g.G.Gate.may_answer c.args.gate.now c.args.job) c.args.turns c.loop-turn.turn c.loop-turn.entered (g.L.Link.trace c.args.link.now)
    (g.L.Link.trace c.loop-turn.link) (g.L.Link.trace c.recv.new.self) cause.Memory refl within c.loop-turn.invariant.turned (search rules)
    (ap (λ (w : LinkTrace). w.nothings) handed.1))
