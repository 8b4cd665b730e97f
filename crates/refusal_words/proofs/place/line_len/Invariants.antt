use Rattle.std.proofs.Common.{◌≡◌, ℕ, ◌<◌, true, get_or}
use Rattle.refusal_words.specs.Places.{is_inside}
use Rattle.refusal_words.proofs.place.line_len.Given as goal

-- no byte so far is a line feed
abbrev pub invariant-loop-i : goal.invariant-loop-i
invariant-loop-i l = (k : ℕ) → k < l.i → is_inside (get_or l.text k 0) ≡ true
