-- How an input is cut into lines, and which of them are answered. This project's own choice.
use Rattle.std.specs.Prelude.{ℕ, Bool, true, not, ◌==◌, List, [], ◌∷◌, filter, if◌then◌else◌}
use Rattle.std.specs.List.{enumerate_from, list_any}
use Rattle.std.specs.Str.Lines.{lines}

-- a line that gets no answer, however long: an empty one, or one that begins with `#`
abbrev pub is_skipped : List ℕ → Bool
is_skipped [] = true
is_skipped (byte ∷ bytes) = byte == 35

-- the lines that are answered, each beside its number, of lines that are numbered from `first` on
abbrev pub answerable_from : ℕ → List (List ℕ) → List (ℕ × List ℕ)
answerable_from first all = filter (λ line. not (is_skipped line.1)) (enumerate_from first all)

-- the lines of an input that are answered, each beside its number: the first line has number 1, and skipped lines count
abbrev pub numbered : List ℕ → List (ℕ × List ℕ)
numbered input = answerable_from 1 (lines input)

-- the byte that ends a line
abbrev pub is_line_feed : ℕ → Bool
is_line_feed byte = byte == 10

-- the lines that have ended: the bytes up to the last line feed, that one too
abbrev pub whole_lines : List ℕ → List ℕ
whole_lines [] = []
whole_lines (byte ∷ bytes) = if list_any is_line_feed (byte ∷ bytes) then byte ∷ whole_lines bytes else []
