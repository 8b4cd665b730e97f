-- One distance more.
use Rattle.std.proofs.Common.{ℕ, [], ◌∷◌, ◌++◌, ap, ◌∙◌}
use Rattle.netchange_core.specs.FilteredDistance.{filtered_distance}
use Rattle.netchange_core.specs.Kept.{filter_of}
use Rattle.domain_cmds.proofs.Counting.{one_list_more}
use Rattle.domain_cmds.proofs.said.distances_of.Goals as goal

pub loop-dist-preserved : goal.loop-dist-preserved
loop-dist-preserved c =
    one_list_more (λ dist. filtered_distance c.args.opening.now (filter_of c.args.filter.now) c.args.v dist ∷ []) c.loop-dist.dist []
    c.loop-dist.distances.items c.push.new.self.items c.loop-dist.invariant
    (c.in_ok-push.ensures.items ∙ ap (λ (d : ℕ). c.loop-dist.distances.items ++ d ∷ []) c.filtered_distance.ensures.value)
