use Rattle.std.proofs.Common.{◌≡◌, ◌≤◌, drop}
use Rattle.bird_import.specs.Items.{first_outside}
use Rattle.bird_import.specs.Scopes.{ends_block}
use Rattle.bird_import.proofs.scopes.first_end.Given as goal

-- what is found from here on is what is found from the beginning on
abbrev pub invariant-loop-at : goal.invariant-loop-at
invariant-loop-at l = record {
  rest : first_outside ends_block l.depth l.at (drop l.at l.words) ≡ first_outside ends_block 0 l.from (drop l.from l.words);
  bounded : l.depth ≤ l.at;
}
