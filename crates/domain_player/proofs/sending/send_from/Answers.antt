use Rattle.std.proofs.Common.{◌≡◌, ◌<◌, length, subst, sym, arith}
use Rattle.domain_player.proofs.Played.{nothing_sent, sent_on}
use Rattle.domain_player.proofs.Queues.{all_to, between_as}
use Rattle.domain_player.proofs.sending.send_from.Goals as goal

pub loop-to-init : goal.loop-to-init
loop-to-init c = record { sent = nothing_sent _ c.requires.order; between = c.requires.between; all = λ w below. absurd (omega (arith, below)) }

pub send_to-requires-clause-order : goal.send_to-requires-clause-order
send_to-requires-clause-order c = c.loop-to.invariant.sent.played.in_order

pub send_to-requires-clause-between : goal.send_to-requires-clause-between
send_to-requires-clause-between c = between_as _ _ _ (sym c.loop-to.auto.tables) c.loop-to.invariant.between

pub loop-to-preserved : goal.loop-to-preserved
loop-to-preserved c = record {
  sent = sent_on _ _ _ c.loop-to.invariant.sent c.in_ok-send_to.ensures.sent;
  between = between_as _ _ _ c.loop-to.auto.tables c.in_ok-send_to.ensures.between;
  all = all_to _ _ c.args.from c.loop-to.to c.in_ok-send_to.ensures.sent c.loop-to.invariant.all c.in_ok-send_to.ensures.all;
}
