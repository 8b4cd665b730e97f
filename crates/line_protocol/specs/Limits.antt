-- The limits of lines and of inputs, in bytes. They are this project's own choice.
use Rattle.std.specs.Prelude.{ℕ}

-- a line, its line feed and the carriage return before that not counted
abbrev pub line_limit : ℕ
line_limit = 1048576

-- all that is read
abbrev pub input_limit : ℕ
input_limit = 16777216

-- a number of a line is at most this, where nothing else is said of it
abbrev pub number_limit : ℕ
number_limit = 65535
