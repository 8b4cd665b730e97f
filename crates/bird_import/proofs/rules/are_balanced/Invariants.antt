use Rattle.std.specs.Prelude.{◌≡◌, ◌≤◌, drop}
use Rattle.bird_import.specs.Rules.{open_behind}
use Rattle.bird_import.proofs.rules.are_balanced.Given as goal

abbrev pub invariant-loop-word : goal.invariant-loop-word
invariant-loop-word l = record {
  bound : l.depth ≤ l.word-index;
  same : open_behind l.depth (drop l.word-index l.words) ≡ open_behind 0 l.words;
}
