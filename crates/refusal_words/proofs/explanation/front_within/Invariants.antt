use Rattle.std.proofs.Common.{◌≡◌, ◌+◌, take}
use Rattle.refusal_words.specs.Shown.{columns}
use Rattle.refusal_words.proofs.explanation.front_within.Given as goal

-- the columns so far are those that are no longer there
abbrev pub invariant-loop-i : goal.invariant-loop-i
invariant-loop-i l = l.room + columns (take l.i l.characters) ≡ l.most
