use Rattle.std.proofs.Common.{refl}
use Rattle.bird_import.proofs.Pairs.{nothing_declared, one_more_place}
use Rattle.bird_import.proofs.functions.declares_nothing.Goals as goal

pub loop-at-preserved : goal.loop-at-preserved
loop-at-preserved c =
    one_more_place c.args.words.now c.loop-at.at c.loop-at.invariant (c.if-not-declares_nothing_at.ensures refl)

pub returns : goal.returns
returns c _ = nothing_declared c.args.words.now c.loop-at.at c.loop-at-test.false c.loop-at.invariant
