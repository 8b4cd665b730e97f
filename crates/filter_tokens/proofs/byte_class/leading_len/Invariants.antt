use Rattle.std.proofs.Common.{◌≡◌, ℕ, ◌<◌, true, get_or}
use Rattle.filter_tokens.specs.ByteClasses.{is_in}
use Rattle.filter_tokens.proofs.byte_class.leading_len.Given as goal

-- each byte so far is of the kind
abbrev pub invariant-loop-i : goal.invariant-loop-i
invariant-loop-i l = (k : ℕ) → k < l.i → is_in l.class (get_or l.text k 0) ≡ true
