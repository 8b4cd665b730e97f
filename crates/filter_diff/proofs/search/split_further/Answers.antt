use Rattle.filter_diff.proofs.Dealt.{dealt_left, dealt_parts}
use Rattle.filter_diff.proofs.search.split_further.Goals as goal

pub returns-in_ok-push_part-clause-kept : goal.returns-in_ok-push_part-clause-kept
returns-in_ok-push_part-clause-kept c route dealt =
    dealt_parts c.args.old.now c.args.new.now route _ _ _ (c.in_ok-push_part.ensures.kept route)
    (dealt_left c.args.old.now c.args.new.now route _ _ _ (c.in_ok-split.ensures.kept route) dealt)

pub returns-else-not-branch-clause-kept : goal.returns-else-not-branch-clause-kept
returns-else-not-branch-clause-kept c route =
    dealt_left c.args.old.now c.args.new.now route _ _ _ (c.in_ok-split.ensures.kept route)
