use Rattle.std.proofs.Common.{subst}
use Rattle.filter_diff.specs.Joins.{StandFor}
use Rattle.filter_diff.proofs.Adding.{stand_further}
use Rattle.filter_diff.proofs.joining.join_all.Goals as goal

pub loop-round-preserved : goal.loop-round-preserved
loop-round-preserved c =
    stand_further _ _ _ (subst (StandFor c.in_ok-joined.joined.items) c.as_slice.ensures.value c.in_ok-joined.ensures) c.loop-round.invariant
