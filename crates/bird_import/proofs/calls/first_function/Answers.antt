use Rattle.bird_import.specs.Stuck.{IsFunctionOf}
use Rattle.bird_import.specs.declared.items.Item.{Item}
use Rattle.bird_import.proofs.Below.{one_more_from}
use Rattle.bird_import.proofs.calls.first_function.Goals as goal

pub loop-at-preserved : goal.loop-at-preserved
loop-at-preserved c =
    one_more_from (λ k. (one : Item) → IsFunctionOf c.args.config.now c.args.name.now k one → ⊥) c.args.from c.loop-at.at c.loop-at.invariant
    (c.function_at.ensures.none c.in_default.is)
