-- The limit of a source. (This project's own choice.)
use Rattle.std.specs.Prelude.{ℕ}

-- a filter's text, or a code file in hexadecimal, of more bytes than this is refused
abbrev pub source_limit : ℕ
source_limit = 1048576
