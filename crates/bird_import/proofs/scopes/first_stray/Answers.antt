use Rattle.std.proofs.Common.{◌<◌, ℕ, List, length}
use Rattle.bird_import.specs.Reasons.{IsVariableAt}
use Rattle.bird_import.specs.Scopes.{IsUse, LiesOutside, end_of_block}
use Rattle.bird_import.proofs.Below.{one_more}
use Rattle.bird_import.proofs.scopes.first_stray.Goals as goal

pub loop-at-preserved : goal.loop-at-preserved
loop-at-preserved c =
    let words = c.args.words.now in
    one_more (λ declared. (name : List ℕ) (k : ℕ) → IsVariableAt name words declared → k < length words → IsUse name words k
    → LiesOutside declared (end_of_block words declared) k → ⊥) c.loop-at.at (λ k below. c.loop-at.invariant k below)
    (c.stray_of.ensures.none c.in_default.is)
