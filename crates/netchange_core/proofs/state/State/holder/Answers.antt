use Rattle.netchange_core.specs.Kept.{views_of}
use Rattle.netchange_core.proofs.Holders.{holder_holds, holder_up}
use Rattle.netchange_core.proofs.state.State.holder.Goals as goal

pub returns-clause-holds : goal.returns-clause-holds
returns-clause-holds c =
    holder_holds (views_of c.args.self.now) c.args.session c.holder.result
    (c.holder.ensures (views_of c.args.self.now) c.requires.present)

pub returns-clause-up : goal.returns-clause-up
returns-clause-up c =
    holder_up (views_of c.args.self.now) c.args.session c.holder.result
    (c.holder.ensures (views_of c.args.self.now) c.requires.present)
