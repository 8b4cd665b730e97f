-- What is written on a link. (This project's own choice.)
use Rattle.std.specs.Prelude.{ℕ, ◌^◌, ◌<◌, List, [], ◌∷◌, ◌++◌, flat_map, Option, Some, None, decimal}
use Rattle.netchange_core.specs.declared.message.Message.{Message}

-- how many bytes a line has at most, its line feed counted
abbrev pub line_limit : ℕ
line_limit = 64

-- two numbers with a space between them
abbrev pub pair_text : ℕ → ℕ → List ℕ
pair_text first second = decimal first ++ 32 ∷ decimal second

-- a message: the node, and its distance
abbrev pub message_text : Message → List ℕ
message_text m = pair_text m.dest m.dist

-- the line of a message
abbrev pub message_line : Message → List ℕ
message_line m = message_text m ++ 10 ∷ []

-- a line of a session: that of a message, or an empty one
abbrev pub line_of : Option Message → List ℕ
line_of None = 10 ∷ []
line_of (Some m) = message_line m

-- such lines in order
abbrev pub lines_text : List (Option Message) → List ℕ
lines_text lines = flat_map line_of lines

-- the messages among them
abbrev pub messages_among : List (Option Message) → List Message
messages_among [] = []
messages_among (None ∷ lines) = messages_among lines
messages_among (Some m ∷ lines) = m ∷ messages_among lines

-- the numbers of a message have 16 bits
pub record FitsMessage (m : Message) : Type 0 where
  pub dest : m.dest < 2 ^ 16
  pub dist : m.dist < 2 ^ 16
