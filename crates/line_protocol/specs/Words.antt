-- How a line is cut into words. This project's own choice.
use Rattle.std.specs.Prelude.{ℕ, ◌-◌, Bool, true, false, ◌||◌, ◌==◌, List, [], ◌∷◌, length, take, drop, filter}
use Rattle.std.specs.List.{slice_split, prefix_len, suffix_len}
use Rattle.std.specs.Str.{bytes_eq}

-- the bytes between words: a space or a tab
abbrev pub is_blank : ℕ → Bool
is_blank byte = byte == 32 || byte == 9

-- a part between blanks is a word if it has a byte
abbrev pub is_word : List ℕ → Bool
is_word [] = false
is_word (byte ∷ bytes) = true

-- the words of a line: its parts between blanks; blanks at the ends and several in a row make no word
abbrev pub words : List ℕ → List (List ℕ)
words line = filter is_word (slice_split is_blank line)

-- a line without the blanks at its front
abbrev pub without_front_blanks : List ℕ → List ℕ
without_front_blanks line = drop (prefix_len is_blank line) line

-- a line without the blanks at its end
abbrev pub without_end_blanks : List ℕ → List ℕ
without_end_blanks line = take (length line - suffix_len is_blank line) line

-- a line without the blanks at either end
abbrev pub trimmed : List ℕ → List ℕ
trimmed line = without_end_blanks (without_front_blanks line)

-- whether what has a spelling is written so
abbrev pub is_spelled : {T : Type 0} → (T → List ℕ) → List ℕ → T → Bool
is_spelled spelling word one = bytes_eq (spelling one) word
