use Rattle.std.proofs.Common.{◌≡◌, ℕ, ◌+◌, ◌*◌, ◌<◌, get_or, length}
use Rattle.refusal_words.specs.Positions.{IsPosition}
use Rattle.refusal_words.specs.declared.position.Position.{Position}
use Rattle.refusal_words.proofs.position.Positions.new.Given as goal

-- so many marks and one, and the last one is where the count goes on
abbrev pub invariant-loop-number : goal.invariant-loop-number
invariant-loop-number l = record {
  marked : length l.marks.items ≡ l.number + 1;
  here : IsPosition l.text (16 * l.number) l.position;
  each : (k : ℕ) (default : Position) → k < length l.marks.items → IsPosition l.text (16 * k) (get_or l.marks.items k default);
}
