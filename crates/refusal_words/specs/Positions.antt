-- The lines and columns that are kept of a text, so that those of any byte are near. (This project's own choice.)
use Rattle.std.specs.Prelude.{◌≡◌, ℕ, ◌+◌, ◌*◌, ◌<◌, ◌≤◌, List, get_or, length}
use Rattle.refusal_words.specs.Places.{column_at, line_at}
use Rattle.refusal_words.specs.declared.position.Position.{Position}

-- This is the position of a byte of a text, and of its end.
pub record IsPosition (text : List ℕ) (at : ℕ) (position : Position) : Type 0 where
  pub line : position.line ≡ line_at text at
  pub column : position.column ≡ column_at text at
  pub line_few : position.line ≤ at + 1
  pub column_few : position.column ≤ at + 1

-- The marks of a text are the positions of its bytes 0, 16, 32, and so on, up to the last one within it.
pub record AreMarks (text : List ℕ) (marks : List Position) : Type 0 where
  pub enough : length text < 16 * length marks
  pub each : (k : ℕ) (default : Position) → k < length marks → IsPosition text (16 * k) (get_or marks k default)
