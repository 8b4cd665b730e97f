-- The names that a line can give to something, such as a filter. (This project's own choice.)
use Rattle.std.specs.Prelude.{ℕ, Bool, false, not, ◌&&◌, ◌||◌, ◌==◌, List, [], ◌∷◌, length, nat_le}
use Rattle.std.specs.Char.{is_ascii_alphanumeric, is_ascii_digit}
use Rattle.std.specs.List.{list_all}

-- the most bytes of a name
abbrev pub name_limit : ℕ
name_limit = 64

-- a letter, a digit or `_`
abbrev pub is_name_byte : ℕ → Bool
is_name_byte byte = is_ascii_alphanumeric byte || byte == 95

-- a name has at least one byte and at most 64, each of them a letter, a digit or `_`, and the first no digit
abbrev pub is_name : List ℕ → Bool
is_name [] = false
is_name (first ∷ others) =
    not (is_ascii_digit first) && nat_le (length (first ∷ others)) name_limit && list_all is_name_byte (first ∷ others)
