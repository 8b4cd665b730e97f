use Rattle.std.proofs.Common.{◌≡◌, ◌+◌, ◌≤◌, length}
use Rattle.line_protocol.specs.Words.{words}
use Rattle.refusal_words.proofs.spelling.count_words.Given as goal

-- each word that is counted has a byte, which is not left
abbrev pub invariant-loop-count : goal.invariant-loop-count
invariant-loop-count l = record {
  words : length (words l.line) ≡ l.count + length (words l.rest);
  bytes : l.count + length l.rest ≤ length l.line;
}
