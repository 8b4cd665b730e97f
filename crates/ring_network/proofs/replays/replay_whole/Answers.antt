use Rattle.std.proofs.Common.{subst, sym}
use Rattle.netchange_core.specs.OpeningView.{OpeningView}
use Rattle.route_history.specs.History.{IsFirstWrong, IsLegal}
use Rattle.ring_network.proofs.Replaying.{none_wrong}
use Rattle.ring_network.proofs.replays.replay_whole.Goals as goal

pub unreachable-requires : goal.unreachable-requires
unreachable-requires c =
    let wrong : IsFirstWrong c.opening.result.now c.entries.result.now c.in-Err-Differs.field-0-0 =
    rw c.in-Err-Differs.field-0-is at c.in-Err-Differs.ensures in
    let legal : IsLegal c.opening.result.now c.entries.result.now =
    subst (λ (o : OpeningView). IsLegal o c.entries.result.now) (sym c.opening.ensures) c.entries.ensures.legal in
    none_wrong c.opening.result.now c.entries.result.now c.in-Err-Differs.field-0-0 legal wrong
