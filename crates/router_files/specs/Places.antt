-- Where the words of a line stand. (This project's own choice.)
use Rattle.std.specs.Prelude.{ℕ, ◌-◌, List, [], ◌∷◌, drop, length}
use Rattle.line_protocol.specs.Words.{words, without_front_blanks}

-- what follows the first of the words of a line
abbrev pub behind_word : List ℕ → List (List ℕ) → List ℕ
behind_word line [] = []
behind_word line (word ∷ others) = drop (length word) (without_front_blanks line)

abbrev pub behind_first : List ℕ → List ℕ
behind_first line = behind_word line (words line)

-- how many bytes of a line stand before the first word of its end
abbrev pub byte_in : List ℕ → List ℕ → ℕ
byte_in line end = length line - length (without_front_blanks end)

abbrev pub first_byte : List ℕ → ℕ
first_byte line = byte_in line line

abbrev pub second_byte : List ℕ → ℕ
second_byte line = byte_in line (behind_first line)

abbrev pub third_byte : List ℕ → ℕ
third_byte line = byte_in line (behind_first (behind_first line))
