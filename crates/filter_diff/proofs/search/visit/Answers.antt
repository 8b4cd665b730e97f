use Rattle.filter_diff.proofs.Dealt.{dealt_parts}
use Rattle.filter_diff.proofs.search.visit.Goals as goal

pub returns-in_ok-push_part-in-Differ-clause-kept : goal.returns-in_ok-push_part-in-Differ-clause-kept
returns-in_ok-push_part-in-Differ-clause-kept c route =
    dealt_parts c.args.old.now c.args.new.now route _ _ _ (c.in_ok-push_part-in-Differ.ensures.kept route)
