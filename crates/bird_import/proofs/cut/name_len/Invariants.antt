use Rattle.std.proofs.Common.{◌≡◌, ℕ, ◌<◌, true, get_or}
use Rattle.bird_import.specs.Cutting.{is_of_name}
use Rattle.bird_import.proofs.cut.name_len.Given as goal

-- the name may have each byte so far
abbrev pub invariant-loop-i : goal.invariant-loop-i
invariant-loop-i l = (k : ℕ) → k < l.i → is_of_name (get_or l.text k 0) ≡ true
