use Rattle.std.proofs.Common.{map}
use Rattle.domain_reports.specs.Views.{effect_view}
use Rattle.netchange_core.specs.Kept.{filter_of}
use Rattle.domain_cmds.proofs.Grouping.{AreSoFar}
use Rattle.domain_cmds.proofs.said.effects_of.Given as goal

-- nodes of lesser numbers than this are grouped
abbrev pub invariant-loop-v : goal.invariant-loop-v
invariant-loop-v l = AreSoFar l.opening (filter_of l.filter) l.v (map effect_view l.effects.items)
