-- The words of a line of a router's file. (This project's own choice.)
use Rattle.std.specs.Prelude.{ℕ, Bool, false, ◌==◌, List, [], ◌∷◌, if◌then◌else◌}
use Rattle.line_protocol.specs.Words.{words}

-- a word that begins with `#` begins a comment
abbrev pub begins_comment : List ℕ → Bool
begins_comment [] = false
begins_comment (byte ∷ bytes) = byte == 35

-- words up to the first that does
abbrev pub before_comment : List (List ℕ) → List (List ℕ)
before_comment [] = []
before_comment (word ∷ others) = if begins_comment word then [] else word ∷ before_comment others

-- the words of a line that are no comment
abbrev pub words_in : List ℕ → List (List ℕ)
words_in line = before_comment (words line)
