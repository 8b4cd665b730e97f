use Rattle.std.specs.Prelude.{◌≡◌, drop}
use Rattle.bird_import.specs.Blocks.{has_no_label}
use Rattle.bird_import.proofs.blocks.has_no_label.Given as goal

abbrev pub invariant-loop-word : goal.invariant-loop-word
invariant-loop-word l = has_no_label l.depth (drop l.word-index l.words) ≡ has_no_label 0 l.words
