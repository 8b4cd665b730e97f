use Rattle.std.proofs.Common.{length, sym}
use Rattle.domain_player.proofs.Played.{nothing_played, received_more}
use Rattle.domain_player.proofs.receiving.receive_all.Goals as goal

pub loop-sent-init : goal.loop-sent-init
loop-sent-init c = nothing_played _ c.requires.order

pub loop-sent-preserved : goal.loop-sent-preserved
loop-sent-preserved c =
    received_more _ c.args.sents.now c.loop-sent.sent-index (length c.args.tables.now) c.loop-sent.tables c.from.result
    c.index-tables-from.result c.receive.new.router c.loop-sent-test.true (sym c.loop-sent.auto.tables) c.requires.between c.from.ensures
    c.in_ok-receive.ensures c.loop-sent.invariant
