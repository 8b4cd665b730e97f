use Rattle.std.proofs.Common.{◌≡◌, ◌++◌, ℕ, List, drop}
use Rattle.line_protocol.specs.Words.{words}
use Rattle.refusal_words.proofs.spelling.from_word.Given as goal

-- so many words are passed, and what is left is the line's end
abbrev pub invariant-loop : goal.invariant-loop
invariant-loop l = record {
  words : words l.rest ≡ drop l.counter (words l.line);
  end : (before : List ℕ) × (l.line ≡ before ++ l.rest);
}
