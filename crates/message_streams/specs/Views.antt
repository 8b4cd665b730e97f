-- A reader and a writer of messages, as contracts see them. (This project's own choice.)
use Rattle.std.specs.Prelude.{◌≡◌, ℕ, Bool, true, List, Option}
use Rattle.line_protocol.specs.Runs.{AppendsFront}
use Rattle.line_protocol.specs.declared.faults.StreamFault.{StreamFault}
use Rattle.line_protocol.specs.declared.faults.StreamFault.TheVariants as fault
use Rattle.message_streams.specs.declared.ends.StreamEnd.{StreamEnd}

-- a reader: the bytes that its stream will give, where they are known; the number of the line that it read last, or tried to; and
-- why it hands out no more, if it does not
pub record ReaderView : Type 0 where
  pub left : Option (List ℕ)
  pub line : ℕ
  pub end : Option StreamEnd

-- a writer: the bytes that its stream got, where they are known, and whether it writes no more, because a write failed
pub record WriterView : Type 0 where
  pub held : Option (List ℕ)
  pub over : Bool

-- A line was not written: memory was refused, and nothing was; or a write failed, now or before, and the stream has a front of it.
abbrev pub IsUnwritten : StreamFault → WriterView → WriterView → List ℕ → Type 0
IsUnwritten fault.Write old new line = (new.over ≡ true) × AppendsFront old.held new.held line
IsUnwritten fault.Memory old new line = new ≡ old
IsUnwritten fault.Read old new line = ⊥
IsUnwritten fault.TooLong old new line = ⊥
