use Rattle.std.proofs.Common.{ℕ, List}
use Rattle.bird_import.specs.Reasons.{IsVariableAt}
use Rattle.bird_import.specs.Stuck.{IsDefinedName}
use Rattle.bird_import.proofs.Below.{one_more}
use Rattle.bird_import.proofs.defines.first_of_two_meanings.Goals as goal

pub loop-at-preserved : goal.loop-at-preserved
loop-at-preserved c =
    one_more (λ k. (name : List ℕ) → IsVariableAt name c.args.words.now k → IsDefinedName c.args.config.now name → ⊥) c.loop-at.at
    (λ k below. c.loop-at.invariant k below) (c.two_meanings_at.ensures.none c.in_default.is)
