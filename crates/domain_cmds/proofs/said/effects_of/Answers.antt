-- One node more.
use Rattle.std.proofs.Common.{◌≡◌, ◌<◌, ℕ, map, sym, ap, subst, arith}
use Rattle.domain_reports.specs.Views.{effect_view}
use Rattle.netchange_core.specs.Kept.{filter_of}
use Rattle.domain_cmds.proofs.Grouping.{AreSoFar, all_said, none_yet, one_more}
use Rattle.domain_cmds.proofs.said.effects_of.Goals as goal

pub loop-v-init : goal.loop-v-init
loop-v-init c =
    subst (AreSoFar c.args.opening.now (filter_of c.args.filter.now) 0) (ap (map effect_view) (sym c.new-effects.ensures.items))
    (none_yet c.args.opening.now (filter_of c.args.filter.now))

pub loop-v-preserved : goal.loop-v-preserved
loop-v-preserved c =
    let short : c.loop-v.v < c.args.opening.now.size = omega arith in
    one_more c.args.opening.now (filter_of c.args.filter.now) c.loop-v.v c.in_ok-distances.distances.items (map effect_view c.loop-v.effects.items)
    (map effect_view c.add_node.new.effects.items) short c.in_ok-distances.ensures c.in_ok-add_node.ensures c.loop-v.invariant

pub returns : goal.returns
returns c =
    let all : c.loop-v.v ≡ c.args.opening.now.size = omega arith in
    all_said c.args.opening.now (filter_of c.args.filter.now) (map effect_view c.loop-v.effects.items)
    (subst (λ (n : ℕ). AreSoFar c.args.opening.now (filter_of c.args.filter.now) n (map effect_view c.loop-v.effects.items)) all c.loop-v.invariant)
