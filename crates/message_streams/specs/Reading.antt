-- What a line says, or nothing. (This project's own choice.)
use Rattle.std.specs.Prelude.{ℕ, if◌then◌else◌, List, filter_map, Option, Some, None, bytes_eq, decimal}
use Rattle.std.specs.List.{slice_split}
use Rattle.std.specs.Option.{option_map}
use Rattle.line_protocol.specs.Lines.{is_line_feed, whole_lines}
use Rattle.netchange_core.specs.declared.message.Message.{Message}
use Rattle.prefix_patterns.specs.Reading.{◌>>=◌, number_in, parts_at}

-- a number of 16 bits that is written as numbers are: with no zero before it
unfoldable pub exact_number : List ℕ → Option ℕ
exact_number word = do
  n ← number_in 65535 word
  if bytes_eq (decimal n) word then Some n else None

-- two such numbers with a space between them
unfoldable pub pair_in : List ℕ → Option (ℕ × ℕ)
pair_in text = do
  parts ← parts_at 32 text
  first ← exact_number parts.0
  second ← exact_number parts.1
  Some (first, second)

-- the message that a line says
abbrev pub message_in : List ℕ → Option Message
message_in line = option_map (λ p. record { dest = p.0; dist = p.1 }) (pair_in line)

-- the messages that the lines of a text say, in order; the bytes after its last line feed say nothing
abbrev pub messages_in : List ℕ → List Message
messages_in text = filter_map message_in (slice_split is_line_feed (whole_lines text))
