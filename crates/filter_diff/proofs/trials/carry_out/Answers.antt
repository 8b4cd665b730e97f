use Rattle.std.proofs.Common.{arith}
use Rattle.filter_diff.proofs.Steps.{stores_at}
use Rattle.filter_diff.proofs.trials.carry_out.Goals as goal

pub returns-in-Ok-clause-step : goal.returns-in-Ok-clause-step
returns-in-Ok-clause-step c route of =
    stores_at c.args.code.now route c.args.pc.now c.in-Store.local _ c.in-Ok.value _ _ _ _ c.args.metric.now c.in-Store.is c.in-Ok.ensures
    c.set.ensures (omega arith)
