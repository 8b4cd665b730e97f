use Rattle.std.proofs.Common.{refl}
use Rattle.std.specs.Prelude.{slice_index}
use Rattle.filter_traces.proofs.Lists.{chosen_more, none_chosen}
use Rattle.filter_traces.proofs.traced.Traced.push_commands.Goals as goal

pub loop-at-init : goal.loop-at-init
loop-at-init c = none_chosen c.args.self.now c.args.is_reached (slice_index c.args.counts.now) c.args.out.now.items

pub loop-at-preserved : goal.loop-at-preserved
loop-at-preserved c =
    chosen_more c.args.self.now c.args.is_reached (slice_index c.args.counts.now) c.loop-at.at _ c.args.out.now.items c.loop-at.out.items
    c.push_chosen.new.out.items c.loop-at.invariant refl c.in_ok-push_chosen.ensures
