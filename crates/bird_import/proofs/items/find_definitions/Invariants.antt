use Rattle.std.proofs.Common.{◌≡◌, ◌≤◌}
use Rattle.bird_import.specs.Items.{blocks_before, definitions_before}
use Rattle.bird_import.proofs.items.find_definitions.Given as goal

-- the definitions so far, and how many blocks are open
abbrev pub invariant-loop-at : goal.invariant-loop-at
invariant-loop-at l = record {
  found : l.found.items ≡ definitions_before l.words l.at;
  depth : l.depth ≡ blocks_before l.words l.at;
  bounded : l.depth ≤ l.at;
}
