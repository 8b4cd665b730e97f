use Rattle.std.proofs.Common.{ℕ, ◌≤◌, ◌-◌, length, drop}
use Rattle.filter_tokens.specs.Tokenization.{AreInOrder}
use Rattle.bird_import.specs.Cutting.{HasWords, AreTokensIn}
use Rattle.bird_import.proofs.cut.push_tokens.Given as goal

-- the words so far go up to the place, and the tokens that are left stand behind it
abbrev pub invariant-loop-token : goal.invariant-loop-token
invariant-loop-token l = record {
  from : l.at ≤ l.behind;
  within : l.behind ≤ length l.text;
  order : AreInOrder (l.behind - l.at) (drop l.token-index l.tokens) (length l.text - l.at);
  added : (to : ℕ) → AreTokensIn l.text l.at l.tokens 0 to → HasWords l.text 0 l.fn.words.items l.at
      → HasWords l.text 0 l.words.items l.behind × AreTokensIn l.text l.at (drop l.token-index l.tokens) (l.behind - l.at) to;
}
