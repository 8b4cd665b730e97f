use Rattle.std.proofs.Common.{ℕ}
use Rattle.bird_import.specs.Reasons.{LacksValue}
use Rattle.bird_import.proofs.Below.{one_more_from}
use Rattle.bird_import.proofs.declarations.first_without_value.Goals as goal

pub loop-at-preserved : goal.loop-at-preserved
loop-at-preserved c k n after below =
    one_more_from (λ k. (n : ℕ) → LacksValue c.args.words.now k n → ⊥) c.in_ok-open.open c.loop-at.at
    (λ k after below n. c.loop-at.invariant k n after below) (c.without_value.ensures.none c.in_default.is) k after below n
