-- Why a reader hands out no more, and what it has read by then. (This project's own choice.)
use Rattle.std.specs.Prelude.{◌≡◌, ◌≢◌, ℕ, ◌<◌, ◌≤◌, ◌==◌, if◌then◌else◌, All, Bool, true, false, Option, Some, None, List, [], ◌∷◌, ◌++◌, length, ⊤}
use Rattle.std.specs.Io.KnownBytes.{Consumes, IsAtEnd}
use Rattle.message_streams.specs.Lines.{line_limit}
use Rattle.message_streams.specs.declared.ends.StreamEnd.{StreamEnd}
use Rattle.message_streams.specs.declared.ends.StreamEnd.TheVariants as why

-- no line feed is in the bytes
abbrev pub IsOpen : List ℕ → Type 0
IsOpen bytes = All (λ byte. byte ≢ 10) bytes

-- the end of a stream after so many bytes of a line
abbrev pub end_within : ℕ → StreamEnd
end_within count = if count == 0 then why.Ended else why.Unfinished

-- Why no line was read, after these bytes of it: the stream ended before a byte of it, or after some; it has as many bytes as a line
-- may have, and none is a line feed; or the stream failed.
abbrev pub EndsAfter : StreamEnd → List ℕ → Option (List ℕ) → Type 0
EndsAfter why.Ended read left = (read ≡ []) × IsAtEnd left
EndsAfter why.Unfinished read left = (0 < length read) × IsAtEnd left
EndsAfter why.TooLong read left = length read ≡ line_limit
EndsAfter why.Read read left = ⊤

-- no line was read; what was taken of the stream is no more than a line may have
pub record StopsAtLine (end : StreamEnd) (known left : Option (List ℕ)) : Type 0 where
  pub read : List ℕ
  pub unended : IsOpen read
  pub within : length read ≤ line_limit
  pub consumed : Consumes known left read
  pub because : EndsAfter end read left

-- a line was read, with its line feed and no more
pub record ReadsLine (line : List ℕ) (known left : Option (List ℕ)) : Type 0 where
  pub unended : IsOpen line
  pub within : length line < line_limit
  pub consumed : Consumes known left (line ++ 10 ∷ [])

-- a reader hands out nothing more, unless it was a line that is too long
abbrev pub is_lasting : StreamEnd → Bool
is_lasting why.TooLong = false
is_lasting why.Ended = true
is_lasting why.Unfinished = true
is_lasting why.Read = true

-- why it hands out nothing more, after it handed out no line for this reason
abbrev pub lasting : StreamEnd → Option StreamEnd
lasting end = if is_lasting end then Some end else None
