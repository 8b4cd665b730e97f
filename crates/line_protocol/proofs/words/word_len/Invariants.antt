use Rattle.std.proofs.Common.{◌≡◌, ℕ, ◌<◌, false, get_or}
use Rattle.line_protocol.specs.Words.{is_blank}
use Rattle.line_protocol.proofs.words.word_len.Given as goal

-- no byte so far is a blank
abbrev pub invariant-loop-i : goal.invariant-loop-i
invariant-loop-i l = (k : ℕ) → k < l.i → is_blank (get_or l.line k 0) ≡ false
