use Rattle.std.proofs.Common.{◌≡◌}
use Rattle.filter_lint.specs.Watching.{is_watched, watched}
use Rattle.filter_lint.proofs.watching.watched_places.Given as goal

-- what is known so far
abbrev pub invariant-loop-at : goal.invariant-loop-at
invariant-loop-at l = l.watched.items ≡ watched (is_watched l.source) l.at
