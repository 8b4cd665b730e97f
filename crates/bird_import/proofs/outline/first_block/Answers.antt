use Rattle.std.proofs.Common.{◌≡◌, true}
use Rattle.bird_import.specs.Items.{opens_block}
use Rattle.bird_import.proofs.Below.{one_more_from}
use Rattle.bird_import.proofs.outline.first_block.Goals as goal

pub loop-at-preserved : goal.loop-at-preserved
loop-at-preserved c =
    let none : opens_block c.args.words.now c.loop-at.at ≡ true → ⊥ = λ opens. cc in
    one_more_from (λ k. opens_block c.args.words.now k ≡ true → ⊥) c.args.from c.loop-at.at c.loop-at.invariant none
