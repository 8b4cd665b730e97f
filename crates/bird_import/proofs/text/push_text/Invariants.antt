use Rattle.std.proofs.Common.{◌≡◌, ◌++◌, None, drop, length}
use Rattle.bird_import.specs.Laying.{origins_behind, text_behind}
use Rattle.bird_import.proofs.text.push_text.Given as goal

-- with what the words that are left add
abbrev pub invariant-loop-word : goal.invariant-loop-word
invariant-loop-word l = record {
  text : l.text.items ++ text_behind l.last (drop l.word-index l.words) ≡ l.fn.text.items ++ text_behind None l.words;
  origins : l.origins.items ++ origins_behind (length l.text.items) l.last (drop l.word-index l.words)
      ≡ origins_behind (length l.fn.text.items) None l.words;
}
