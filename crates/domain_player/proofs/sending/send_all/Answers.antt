use Rattle.std.proofs.Common.{◌≡◌, ◌<◌, length, subst, sym, arith}
use Rattle.domain_player.proofs.Played.{nothing_sent, sent_on}
use Rattle.domain_player.proofs.Queues.{all_from, between_as}
use Rattle.domain_player.proofs.sending.send_all.Goals as goal

pub loop-from-init : goal.loop-from-init
loop-from-init c = record { sent = nothing_sent _ c.requires.order; between = c.requires.between; all = λ u w below short. absurd (omega (arith, below)) }

pub send_from-requires-clause-order : goal.send_from-requires-clause-order
send_from-requires-clause-order c = c.loop-from.invariant.sent.played.in_order

pub send_from-requires-clause-between : goal.send_from-requires-clause-between
send_from-requires-clause-between c = between_as _ _ _ (sym c.loop-from.auto.tables) c.loop-from.invariant.between

pub loop-from-preserved : goal.loop-from-preserved
loop-from-preserved c = record {
  sent = sent_on _ _ _ c.loop-from.invariant.sent c.in_ok-send_from.ensures.sent;
  between = between_as _ _ _ c.loop-from.auto.tables c.in_ok-send_from.ensures.between;
  all = all_from _ _ (length c.args.tables.now) c.loop-from.from c.in_ok-send_from.ensures.sent c.loop-from.invariant.all
      (λ w below. c.in_ok-send_from.ensures.all w (omega (arith, below, c.loop-from.auto.tables)));
}
