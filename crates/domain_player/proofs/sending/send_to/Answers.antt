use Rattle.std.proofs.Common.{◌≡◌, ◌<◌, length, subst, sym, arith}
use Rattle.routing_domain.specs.Domain.{neighbour}
use Rattle.domain_player.specs.Play.{domain_of, router_at}
use Rattle.domain_player.proofs.Played.{nothing_sent}
use Rattle.domain_player.proofs.Queues.{between_as, less_waits, none_waits, sent_more, waiting_linked}
use Rattle.domain_player.proofs.sending.send_to.Goals as goal

pub sending-init : goal.sending-init
sending-init c = record { sent = nothing_sent _ c.requires.order; between = c.requires.between }

pub waiting-requires-clause-sound : goal.waiting-requires-clause-sound
waiting-requires-clause-sound c = c.sending.invariant.sent.played.in_order.sound c.args.from (omega (arith, c.requires.from, c.sending.auto.tables))

pub send_some-requires-clause-order : goal.send_some-requires-clause-order
send_some-requires-clause-order c = c.sending.invariant.sent.played.in_order

pub send_some-requires-clause-linked : goal.send_some-requires-clause-linked
send_some-requires-clause-linked c =
    waiting_linked (length c.sending.tables) (router_at c.sending.tables c.args.from) c.args.to
    (c.sending.invariant.sent.played.in_order.sound c.args.from (omega (arith, c.requires.from, c.sending.auto.tables)))
    (omega (arith, c.requires.to, c.sending.auto.tables)) (omega (arith, c.waiting.ensures, c.sending-test.true))

pub sending-preserved : goal.sending-preserved
sending-preserved c = record {
  sent = sent_more _ (domain_of c.sending.tables c.sending.sents.items) _ c.args.from c.args.to c.sending.invariant.sent
      (omega (arith, c.requires.from, c.sending.auto.tables)) (omega (arith, c.requires.to, c.sending.auto.tables))
      (omega (arith, c.waiting.ensures, c.sending-test.true)) c.in_ok-send_some.ensures.sent;
  between = between_as _ _ _ c.sending.auto.tables
      (c.in_ok-send_some.ensures.between (between_as _ _ _ (sym c.sending.auto.tables) c.sending.invariant.between));
}

pub sending-smaller : goal.sending-smaller
sending-smaller c =
    less_waits (domain_of c.sending.tables c.sending.sents.items) _ c.args.from c.args.to c.sending.invariant.sent.played.in_order
    (omega (arith, c.requires.from, c.sending.auto.tables)) (omega (arith, c.requires.to, c.sending.auto.tables))
    (omega (arith, c.waiting.ensures, c.sending-test.true)) c.in_ok-send_some.ensures.sent

pub returns-clause-all : goal.returns-clause-all
returns-clause-all c = none_waits _ c.waiting.result c.waiting.ensures c.sending-test.false
