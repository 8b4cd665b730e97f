use Rattle.std.proofs.Common.{◌≤◌, ◌-◌, length}
use Rattle.bird_import.specs.Cutting.{HasWords}
use Rattle.bird_import.proofs.cut.cut_words.Given as goal

-- the words so far go up to the place
abbrev pub invariant-loop-at : goal.invariant-loop-at
invariant-loop-at l = record {
  within : l.at ≤ length l.text;
  words : HasWords l.text 0 l.words.items l.at;
}

abbrev pub decreases-loop-at : goal.decreases-loop-at
decreases-loop-at l = length l.text - l.at
