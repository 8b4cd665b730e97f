use Rattle.std.proofs.Common.{◌≡◌, ℕ, ◌<◌, true, get_or}
use Rattle.bird_import.specs.Cutting.{goes_on}
use Rattle.bird_import.proofs.cut.front_len.Given as goal

-- the word goes on with each byte so far
abbrev pub invariant-loop-i : goal.invariant-loop-i
invariant-loop-i l = (k : ℕ) → k < l.i → goes_on l.is_number (get_or l.text k 0) ≡ true
