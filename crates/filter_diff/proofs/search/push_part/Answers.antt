use Rattle.filter_diff.proofs.Dealt.{in_kept, in_new}
use Rattle.filter_diff.proofs.search.push_part.Goals as goal

pub returns-clause-kept : goal.returns-clause-kept
returns-clause-kept c route = in_kept route _ _ _ c.in_ok-push.ensures.items

pub returns-clause-covered : goal.returns-clause-covered
returns-clause-covered c route is_in of = in_new route _ _ _ c.in_ok-push.ensures.items (c.part_of.ensures.routes.of_part route is_in of)
