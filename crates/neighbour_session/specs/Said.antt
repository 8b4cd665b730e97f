-- What the lines say that a stream gave, or got, between two states of it. (This project's own choice.)
use Rattle.std.specs.Prelude.{◌≡◌, ℕ, ◌-◌, All, List, length, take, drop, Option, Some, None}
use Rattle.std.specs.Io.KnownBytes.{Appends, Consumes}
use Rattle.message_streams.specs.Lines.{FitsMessage, lines_text, messages_among}
use Rattle.message_streams.specs.Reading.{messages_in}
use Rattle.netchange_core.specs.declared.message.Message.{Message}

-- the messages that these lines say: of what the stream had to give then and now, or had got then and now; none are known where its bytes
-- are not
abbrev pub said_by : Option (List ℕ) → Option (List ℕ) → Option (List Message)
said_by None now = None
said_by (Some all) None = None
said_by (Some all) (Some left) = Some (messages_in (take (length all - length left) all))

abbrev pub said_to : Option (List ℕ) → Option (List ℕ) → Option (List Message)
said_to None now = None
said_to (Some before) None = None
said_to (Some before) (Some all) = Some (messages_in (drop (length before) all))

-- the stream gave lines of messages, and empty ones, or got them
pub record GaveLines (first last : Option (List ℕ)) : Type 0 where
  pub lines : List (Option Message)
  pub fits : All FitsMessage (messages_among lines)
  pub moved : Consumes first last (lines_text lines)

pub record GotLines (first last : Option (List ℕ)) : Type 0 where
  pub lines : List (Option Message)
  pub fits : All FitsMessage (messages_among lines)
  pub moved : Appends first last (lines_text lines)

-- the messages that a link tells, if it does, are those of the lines by which a stream moved, each in its turn; the other lines are empty
pub record AreThese (moves : List ℕ → Type 0) (messages : List Message) : Type 0 where
  pub lines : List (Option Message)
  pub told : messages_among lines ≡ messages
  pub fits : All FitsMessage messages
  pub moved : moves (lines_text lines)

abbrev pub AreLines : (List ℕ → Type 0) → Option (List Message) → Type 0
AreLines moves None = Unit {0}
AreLines moves (Some messages) = AreThese moves messages
