-- Runs of bytes of one kind, as the lexer reads them.
use Rattle.std.specs.Prelude.{ℕ, Bool, not, ◌||◌, ◌==◌}
use Rattle.std.specs.Char.{is_ascii_digit, is_ascii_hexdigit}
use Rattle.filter_tokens.specs.declared.byte_class.ByteClass.{ByteClass}
use Rattle.filter_tokens.specs.declared.byte_class.ByteClass.TheVariants as class
use Rattle.filter_tokens.specs.Shapes.{line_feed, quote, continues_word}

-- a byte that may be in a text in double quotes
abbrev pub is_quotable : ℕ → Bool
is_quotable byte = not (byte == quote || byte == line_feed)

-- a byte that does not end a line
abbrev pub is_of_line : ℕ → Bool
is_of_line byte = not (byte == line_feed)

-- the bytes of each kind
abbrev pub is_in : ByteClass → ℕ → Bool
is_in class.Word = continues_word
is_in class.Digits = is_ascii_digit
is_in class.Hexadecimal = is_ascii_hexdigit
is_in class.Quoted = is_quotable
is_in class.Line = is_of_line

-- the bytes that are a punctuator whatever follows them
abbrev pub stands_alone : ℕ → Bool
stands_alone byte =
    byte == 40 || byte == 41 || byte == 123 || byte == 125 || byte == 91
    || byte == 93 || byte == 59 || byte == 58 || byte == 44 || byte == 61
    || byte == 126 || byte == 43 || byte == 45 || byte == 42
