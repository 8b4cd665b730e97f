use Rattle.std.proofs.Common.{◌≡◌, ◌≤◌, drop}
use Rattle.bird_import.specs.Items.{first_outside}
use Rattle.bird_import.specs.Rules.{closes}
use Rattle.bird_import.proofs.word.closing.Given as goal

-- what is found from here on is what is found from the beginning on
abbrev pub invariant-loop-at : goal.invariant-loop-at
invariant-loop-at l = record {
  rest : first_outside closes l.depth l.at (drop l.at l.words) ≡ first_outside closes 0 l.from (drop l.from l.words);
  bounded : l.depth ≤ l.at;
}
