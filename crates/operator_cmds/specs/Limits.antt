-- The limits of the words of a command. (This project's own choice.)
use Rattle.std.specs.Prelude.{ℕ}

-- the last position of a history that a line can name
abbrev pub largest_position : ℕ
largest_position = 18446744073709551615

-- the most entries that are told at once
abbrev pub history_count : ℕ
history_count = 100
