use Rattle.filter_diff.proofs.search.split.Goals as goal

pub returns-clause-kept : goal.returns-clause-kept
returns-clause-kept c route left = c.in_ok-done.ensures.kept route (c.in_ok-push_bits.ensures.kept route left)

pub returns-clause-real : goal.returns-clause-real
returns-clause-real c all = c.in_ok-done.ensures.real (c.in_ok-push_bits.ensures.real all)
