use Rattle.filter_diff.proofs.Explored.{are_explored_more}
use Rattle.filter_diff.proofs.reaching.deal.Goals as goal

pub mark_explored-requires-clause-explored : goal.mark_explored-requires-clause-explored
mark_explored-requires-clause-explored c = are_explored_more c.args.code.now _ _ c.args.explored.now c.visit.ensures.more c.requires.explored
