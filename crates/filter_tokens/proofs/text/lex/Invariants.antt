use Rattle.std.proofs.Common.{◌≤◌, ◌-◌, length, drop}
use Rattle.filter_tokens.specs.Tokenization.{AreInOrder}
use Rattle.filter_tokens.proofs.Tokenized.{Lexes}
use Rattle.filter_tokens.proofs.text.lex.Given as goal

-- the tokens so far are those of the text up to the place
abbrev pub invariant-loop-at : goal.invariant-loop-at
invariant-loop-at l = record {
  within : l.at ≤ length l.text;
  lexes : Lexes l.text l.tokens.items l.at (drop l.at l.text);
  order : AreInOrder 0 l.tokens.items l.at;
}

abbrev pub decreases-loop-at : goal.decreases-loop-at
decreases-loop-at l = length l.text - l.at
