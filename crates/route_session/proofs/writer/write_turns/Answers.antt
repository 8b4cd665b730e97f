use Rattle.std.proofs.Common.{rules, ◌≡◌, ◌∙◌, ◌+◌, ◌<◌, ap, refl, sym, [], List, subst, length, ◌≤◌, arith}
use Rattle.netchange_core.specs.declared.message.Message.{Message}
use Rattle.netchange_core.specs.Calls.{carried}
use Rattle.route_history.specs.declared.fault.CallFault.TheVariants as fault
use Rattle.route_session.specs.declared.ends.Cause.TheVariants as cause
use Rattle.route_session.specs.Calls.{stale, take}
use Rattle.route_session.specs.Writes.{Hands, messages_sent}
use Rattle.route_session.proofs.Gaining.{called}
use Rattle.route_session.proofs.Writing.{at_most_16, begins_writing, ends_by_failure, ends_by_turns, ends_full, ends_stale, ends_without_memory}
use Rattle.route_session.proofs.Writing.{none_left, writes_on}
use Rattle.route_session.proofs.Turning.{no_turn_taken, take_held_back, take_made, take_refused, taken_so_far}
use Rattle.slot_lock.specs.Calls.{Answered, Refused}
use Rattle.slot_lock.specs.Passes.{PassView}
use Rattle.route_session.proofs.writer.write_turns.Goals as goal

pub loop-turn-init : goal.loop-turn-init
loop-turn-init g c = record {
  pass = c.requires;
  writing = begins_writing c.args.newest_only c.args.router.now c.args.session c.args.pass.now (g.L.Link.trace c.args.link.now) c.requires;
  turned = no_turn_taken (g.G.Gate.may_answer c.args.gate.now c.args.job) c.args.pass.now.fragment;
  room = omega arith;
}

pub returns-in-Err-Full-clause-written : goal.returns-in-Err-Full-clause-written
returns-in-Err-Full-clause-written g c =
    let refused : Refused fault.Full c.args.router.now c.loop-turn.pass c.call.new.pass = rw c.in-Err-Full.field-0-is at
    c.in-Err-Full.ensures.refused in
    rw c.ended.ensures
    (ends_full c.args.newest_only c.args.router.now c.args.session c.args.pass.now (g.L.Link.trace c.args.link.now) c.loop-turn.sent
    c.loop-turn.left_out c.loop-turn.pass c.call.new.pass (g.L.Link.trace c.loop-turn.link) c.loop-turn.invariant.writing refused
    (called c.args.router.now c.loop-turn.pass c.call.new.pass c.call.ensures.pass c.call.ensures.own c.call.ensures.failed_tries))

pub returns-in-Err-Memory-clause-written : goal.returns-in-Err-Memory-clause-written
returns-in-Err-Memory-clause-written g c =
    let refused : Refused fault.Memory c.args.router.now c.loop-turn.pass c.call.new.pass = rw c.in-Err-Memory.field-0-is at
    c.in-Err-Memory.ensures.refused in
    rw c.ended-in-Err-Memory.ensures
    (ends_without_memory c.args.newest_only c.args.router.now c.args.session c.args.pass.now (g.L.Link.trace c.args.link.now) c.loop-turn.sent
    c.loop-turn.left_out c.loop-turn.pass c.call.new.pass (g.L.Link.trace c.loop-turn.link) c.loop-turn.invariant.writing refused
    (called c.args.router.now c.loop-turn.pass c.call.new.pass c.call.ensures.pass c.call.ensures.own c.call.ensures.failed_tries))

pub returns-clause-written : goal.returns-clause-written
returns-clause-written g c =
    rw c.ended-2.ensures
    (ends_by_turns c.args.newest_only c.args.router.now c.args.session c.args.pass.now (g.L.Link.trace c.args.link.now) c.loop-turn.sent
    c.loop-turn.left_out c.loop-turn.pass (g.L.Link.trace c.loop-turn.link) c.loop-turn.invariant.writing)

pub returns-then-is_stale-clause-written : goal.returns-then-is_stale-clause-written
returns-then-is_stale-clause-written g c =
    let answered : Answered c.args.router.now c.loop-turn.pass
    (take c.args.session) c.in-Ok.answer c.call.new.pass = c.in-Ok.ensures.answered in
    let is_stale : c.in-Ok.answer.reply ≡ stale = search rules in
    rw c.ended-then-is_stale.ensures
    (ends_stale c.args.newest_only c.args.router.now c.args.session c.args.pass.now (g.L.Link.trace c.args.link.now) c.loop-turn.sent
    c.loop-turn.left_out c.loop-turn.pass c.call.new.pass (g.L.Link.trace c.loop-turn.link) c.in-Ok.answer c.loop-turn.invariant.writing answered
    (called c.args.router.now c.loop-turn.pass c.call.new.pass c.call.ensures.pass c.call.ensures.own c.call.ensures.failed_tries) is_stale)

pub returns-then-not-is_empty-clause-written : goal.returns-then-not-is_empty-clause-written
returns-then-not-is_empty-clause-written g c =
    let answered : Answered c.args.router.now c.loop-turn.pass
    (take c.args.session) c.in-Ok.answer c.call.new.pass = c.in-Ok.ensures.answered in
    let fresh : c.in-Ok.answer.reply ≡ stale → ⊥ = search rules in
    let messages : c.messages_sent-messages.result.0.items ≡ messages_sent c.args.newest_only (carried c.in-Ok.answer.reply) =
    c.messages_sent-messages.ensures.told ∙ ap (messages_sent c.args.newest_only) c.messages_of.ensures in
    let handed : Hands (g.L.Link.trace c.loop-turn.link) (messages_sent c.args.newest_only (carried c.in-Ok.answer.reply))
    c.send_each-unsent.result.items (g.L.Link.trace c.send_each-unsent.new.link) =
    subst (λ (l : List Message). Hands (g.L.Link.trace c.loop-turn.link) l c.send_each-unsent.result.items
    (g.L.Link.trace c.send_each-unsent.new.link)) messages c.send_each-unsent.ensures in
    let split : c.messages_sent-messages.result.1 + length (messages_sent c.args.newest_only (carried c.in-Ok.answer.reply)) ≡ length (carried c.in-Ok.answer.reply) =
    ap (λ (l : List Message). c.messages_sent-messages.result.1 + length l) (sym messages) ∙ c.messages_sent-messages.ensures.counted
    ∙ ap length c.messages_of.ensures in
    let count : c.len-count.result ≡ length (messages_sent c.args.newest_only (carried c.in-Ok.answer.reply)) = search rules in
    let left : c.len.result ≡ length c.send_each-unsent.result.items = search rules in
    let some : c.send_each-unsent.result.items ≡ [] → ⊥ = search rules in
    rw (c.from_vec.ensures, count, left)
    (ends_by_failure c.args.newest_only c.args.router.now c.args.session c.args.pass.now (g.L.Link.trace c.args.link.now) c.loop-turn.sent
    c.loop-turn.left_out c.loop-turn.pass c.call.new.pass (g.L.Link.trace c.loop-turn.link) (g.L.Link.trace c.send_each-unsent.new.link) c.in-Ok.answer
    c.send_each-unsent.result.items c.messages_sent-messages.result.1 c.loop-turn.invariant.writing answered
    (called c.args.router.now c.loop-turn.pass c.call.new.pass c.call.ensures.pass c.call.ensures.own c.call.ensures.failed_tries) fresh split
    handed some)

pub loop-turn-preserved : goal.loop-turn-preserved
loop-turn-preserved g c =
    let answered : Answered c.args.router.now c.loop-turn.pass
    (take c.args.session) c.in-Ok.answer c.call.new.pass = c.in-Ok.ensures.answered in
    let fresh : c.in-Ok.answer.reply ≡ stale → ⊥ = search rules in
    let messages : c.messages_sent-messages.result.0.items ≡ messages_sent c.args.newest_only (carried c.in-Ok.answer.reply) =
    c.messages_sent-messages.ensures.told ∙ ap (messages_sent c.args.newest_only) c.messages_of.ensures in
    let handed : Hands (g.L.Link.trace c.loop-turn.link) (messages_sent c.args.newest_only (carried c.in-Ok.answer.reply))
    c.send_each-unsent.result.items (g.L.Link.trace c.send_each-unsent.new.link) =
    subst (λ (l : List Message). Hands (g.L.Link.trace c.loop-turn.link) l c.send_each-unsent.result.items
    (g.L.Link.trace c.send_each-unsent.new.link)) messages c.send_each-unsent.ensures in
    let split : c.messages_sent-messages.result.1 + length (messages_sent c.args.newest_only (carried c.in-Ok.answer.reply)) ≡ length (carried c.in-Ok.answer.reply) =
    ap (λ (l : List Message). c.messages_sent-messages.result.1 + length l) (sym messages) ∙ c.messages_sent-messages.ensures.counted
    ∙ ap length c.messages_of.ensures in
    let count : c.len-count.result ≡ length (messages_sent c.args.newest_only (carried c.in-Ok.answer.reply)) = search rules in
    let left : c.len.result ≡ length c.send_each-unsent.result.items = search rules in
    let nothing : length c.send_each-unsent.result.items ≡ 0 = search rules in
    let none : c.send_each-unsent.result.items ≡ [] = none_left c.send_each-unsent.result.items nothing in
    let short : length (carried c.in-Ok.answer.reply) ≤ 16 =
    at_most_16 c.args.router.now c.args.session c.loop-turn.pass c.call.new.pass c.in-Ok.answer c.taken_begins_sent.ensures.at_most
    answered in
    record {
      pass = c.call.ensures.pass.0;
      writing = rw (count, left)
          (writes_on c.args.newest_only c.args.router.now c.args.session c.args.pass.now (g.L.Link.trace c.args.link.now) c.loop-turn.sent
          c.loop-turn.left_out c.loop-turn.pass c.call.new.pass (g.L.Link.trace c.loop-turn.link) (g.L.Link.trace c.send_each-unsent.new.link) c.in-Ok.answer
          c.send_each-unsent.result.items c.messages_sent-messages.result.1 c.loop-turn.invariant.writing answered
          (called c.args.router.now c.loop-turn.pass c.call.new.pass c.call.ensures.pass c.call.ensures.own c.call.ensures.failed_tries) fresh
          split handed none);
      turned = take_made (g.G.Gate.may_answer c.args.gate.now c.args.job) c.loop-turn.turn c.args.pass.now.fragment c.args.router.now
          c.loop-turn.pass c.call.new.pass (take c.args.session) c.in-Ok.answer c.loop-turn.invariant.turned (search rules) answered;
      room = omega arith;
    }

pub loop-turn-preserved-then-not-may_go : goal.loop-turn-preserved-then-not-may_go
loop-turn-preserved-then-not-may_go g c = record {
  pass = c.loop-turn.invariant.pass;
  writing = c.loop-turn.invariant.writing;
  turned = take_held_back (g.G.Gate.may_answer c.args.gate.now c.args.job) c.loop-turn.turn c.args.pass.now.fragment
      c.loop-turn.pass.fragment c.loop-turn.invariant.turned c.if-not-may_go.ensures;
  room = omega arith;
}

pub returns-in-Err-Full-clause-turns : goal.returns-in-Err-Full-clause-turns
returns-in-Err-Full-clause-turns g c =
    let refused : Refused fault.Full c.args.router.now c.loop-turn.pass c.call.new.pass = rw c.in-Err-Full.field-0-is at
    c.in-Err-Full.ensures.refused in
    let within : c.loop-turn.turn < c.args.turns = search rules in
    rw c.ended.ensures
    (take_refused (g.G.Gate.may_answer c.args.gate.now c.args.job) c.args.turns c.loop-turn.turn c.args.pass.now.fragment
    c.loop-turn.pass.fragment c.call.new.pass.fragment cause.Full refl within c.loop-turn.invariant.turned (search rules) refused.mine)

pub returns-in-Err-Memory-clause-turns : goal.returns-in-Err-Memory-clause-turns
returns-in-Err-Memory-clause-turns g c =
    let refused : Refused fault.Memory c.args.router.now c.loop-turn.pass c.call.new.pass = rw c.in-Err-Memory.field-0-is at
    c.in-Err-Memory.ensures.refused in
    let within : c.loop-turn.turn < c.args.turns = search rules in
    rw c.ended-in-Err-Memory.ensures
    (take_refused (g.G.Gate.may_answer c.args.gate.now c.args.job) c.args.turns c.loop-turn.turn c.args.pass.now.fragment
    c.loop-turn.pass.fragment c.call.new.pass.fragment cause.Memory refl within c.loop-turn.invariant.turned (search rules) (ap (λ (v : PassView). v.fragment.mine) refused.1))

pub returns-then-is_stale-clause-turns : goal.returns-then-is_stale-clause-turns
returns-then-is_stale-clause-turns g c =
    let answered : Answered c.args.router.now c.loop-turn.pass
    (take c.args.session) c.in-Ok.answer c.call.new.pass = c.in-Ok.ensures.answered in
    let within : c.loop-turn.turn < c.args.turns = search rules in
    rw c.ended-then-is_stale.ensures
    (taken_so_far (g.G.Gate.may_answer c.args.gate.now c.args.job) c.args.turns (c.loop-turn.turn + 1) c.args.pass.now.fragment
    c.call.new.pass.fragment cause.Stale refl (omega arith) (λ by_turns. absurd cc)
    (take_made (g.G.Gate.may_answer c.args.gate.now c.args.job) c.loop-turn.turn c.args.pass.now.fragment c.args.router.now
    c.loop-turn.pass c.call.new.pass (take c.args.session) c.in-Ok.answer c.loop-turn.invariant.turned (search rules) answered))

pub returns-then-not-is_empty-clause-turns : goal.returns-then-not-is_empty-clause-turns
returns-then-not-is_empty-clause-turns g c =
    let answered : Answered c.args.router.now c.loop-turn.pass
    (take c.args.session) c.in-Ok.answer c.call.new.pass = c.in-Ok.ensures.answered in
    let within : c.loop-turn.turn < c.args.turns = search rules in
    taken_so_far (g.G.Gate.may_answer c.args.gate.now c.args.job) c.args.turns (c.loop-turn.turn + 1) c.args.pass.now.fragment
    c.call.new.pass.fragment cause.LinkFault refl (omega arith) (λ by_turns. absurd cc)
    (take_made (g.G.Gate.may_answer c.args.gate.now c.args.job) c.loop-turn.turn c.args.pass.now.fragment c.args.router.now
    c.loop-turn.pass c.call.new.pass (take c.args.session) c.in-Ok.answer c.loop-turn.invariant.turned (search rules) answered)
