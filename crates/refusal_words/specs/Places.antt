-- Where a byte of a text is, as an editor shows it: lines and columns count from 1, and a column counts characters. (This
-- project's own choice.)
use Rattle.std.specs.Prelude.{ℕ, ◌+◌, ◌-◌, Bool, not, ◌||◌, nat_lt, nat_le, List, count_by, drop, length, take}
use Rattle.std.specs.List.{prefix_len, suffix_len}
use Rattle.line_protocol.specs.Lines.{is_line_feed}

-- a byte that begins a character of UTF-8: one below 128 or from 192 on; the others continue a character
abbrev pub begins_character : ℕ → Bool
begins_character byte = nat_lt byte 128 || nat_le 192 byte

-- a byte of a line
abbrev pub is_inside : ℕ → Bool
is_inside byte = not (is_line_feed byte)

-- what follows the last line feed of a text
abbrev pub behind_last_feed : List ℕ → List ℕ
behind_last_feed text = drop (length text - suffix_len is_inside text) text

-- what is before the first line feed of a text
abbrev pub before_first_feed : List ℕ → List ℕ
before_first_feed text = take (prefix_len is_inside text) text

-- the number of the line: one more than the line feeds before the place
abbrev pub line_at : List ℕ → ℕ → ℕ
line_at text at = count_by is_line_feed (take at text) + 1

-- the column: one more than the characters between the last line feed and the place
abbrev pub column_at : List ℕ → ℕ → ℕ
column_at text at = count_by begins_character (behind_last_feed (take at text)) + 1
