use Rattle.std.proofs.Common.{◌≡◌, ◌+◌, ◌≤◌, drop, length}
use Rattle.refusal_words.specs.Shown.{columns}
use Rattle.refusal_words.proofs.explanation.end_within.Given as goal

-- the columns from the start on are those that are no longer there
abbrev pub invariant-loop-start : goal.invariant-loop-start
invariant-loop-start l = record {
  within : l.start ≤ length l.characters;
  taken : l.room + columns (drop l.start l.characters) ≡ l.most;
}

abbrev pub decreases-loop-start : goal.decreases-loop-start
decreases-loop-start l = l.start
