use Rattle.filter_diff.specs.Exploring.{AreExplored}
use Rattle.filter_diff.proofs.exploring.mark_explored.Given as goal

-- all places so far are such places
abbrev pub invariant-loop-step : goal.invariant-loop-step
invariant-loop-step l = AreExplored l.code l.marks l.explored
