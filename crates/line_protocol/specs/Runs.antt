-- How a service answers the lines of a stream, one after another. This project's own choice.
use Rattle.std.specs.Prelude.{◌≡◌, ℕ, ◌+◌, ◌≤◌, false, MatchBool, List, [], ◌∷◌, ◌++◌, length, take, Option, Some, ◌⊎◌}
use Rattle.std.specs.Io.KnownBytes.{Appends, Consumes}
use Rattle.line_protocol.specs.Answers.{Answer, is_end, is_over, refusals, text_of}
use Rattle.line_protocol.specs.Lines.{numbered, whole_lines}
use Rattle.line_protocol.specs.declared.faults.StreamFault.{StreamFault}
use Rattle.line_protocol.specs.declared.faults.StreamFault.TheVariants.{Read, Write, Memory, TooLong}

-- a writer got a front of a text
abbrev pub AppendsFront : Option (List ℕ) → Option (List ℕ) → List ℕ → Type 0
AppendsFront held holds text = (front : List ℕ) × (back : List ℕ) × (text ≡ front ++ back) × Appends held holds front

-- a reader gave at most so many of its bytes
abbrev pub ConsumesAtMost : ℕ → Option (List ℕ) → Option (List ℕ) → Type 0
ConsumesAtMost most known left = (read : List ℕ) × Consumes known left read × (length read ≤ most)

-- a fault of reading into memory
abbrev pub IsReadFault : StreamFault → Type 0
IsReadFault fault = (fault ≡ Read) ⊎ (fault ≡ Memory)

-- what a writer got of a text: all of it, but a front of it where the writer itself failed
abbrev pub IsWritten : StreamFault → Option (List ℕ) → Option (List ℕ) → List ℕ → Type 0
IsWritten Read held holds text = Appends held holds text
IsWritten Write held holds text = AppendsFront held holds text
IsWritten Memory held holds text = Appends held holds text
IsWritten TooLong held holds text = Appends held holds text

-- `answers before number line answer after` says that a service may give this answer to the line of this number, and is left as `after`
module _ {S : Type 0} (answers : S → ℕ → List ℕ → Answer → S → Type 0) where
  -- these answers are given to these lines, each in its turn, up to the end or to the answer that ends the stream
  abbrev pub Runs : S → List (ℕ × List ℕ) → List Answer → S → Type 0
  Runs before [] [] after = after ≡ before
  Runs before (line ∷ lines) (answer ∷ given) after = (mid : S) × answers before line.0 line.1 answer mid
      × MatchBool (is_end answer.reply) ((given ≡ []) × (after ≡ mid)) (Runs mid lines given after)
  -- there are no more answers than lines, and no fewer
  Runs before [] (answer ∷ given) after = ⊥
  Runs before (line ∷ lines) [] after = ⊥

  -- these answers are given to the first of these lines, each in its turn
  abbrev pub RunsFront : S → List (ℕ × List ℕ) → List Answer → S → Type 0
  RunsFront before lines [] after = after ≡ before
  RunsFront before (line ∷ lines) (answer ∷ given) after = (mid : S) × answers before line.0 line.1 answer mid
      × MatchBool (is_end answer.reply) ((given ≡ []) × (after ≡ mid)) (RunsFront mid lines given after)
  -- there are no more answers than lines
  RunsFront before [] (answer ∷ given) after = ⊥

  -- A stream of lines was answered to its end, or to the answer that ended it. At most `limit` bytes were read. `input` is all that the reader had, `left` what
  -- it has now; `held` and `holds` are what the writer held before and holds now; `refused` is the number that was returned.
  pub record Finishes (limit : ℕ) (before after : S) (input : List ℕ) (left held holds : Option (List ℕ)) (refused : ℕ) : Type 0 where
    pub given : List Answer
    pub run : Runs before (numbered input) given after
    pub written : Appends held holds (text_of given)
    pub counted : refused ≡ refusals given
    pub read : List ℕ
    pub consumed : Consumes (Some input) left read
    pub within : length read ≤ limit
    pub to_end : is_over given ≡ false → left ≡ Some []

-- How a service is left that gave some answers, the last of which left it as `after`: so, or as a call left it that was then
-- refused memory. `refuses before after` says that such a call may leave the service so.
abbrev pub IsLeft : {S : Type 0} → (S → S → Type 0) → S → S → Type 0
IsLeft refuses after now = (now ≡ after) ⊎ refuses after now

module _ {S : Type 0} (answers : S → ℕ → List ℕ → Answer → S → Type 0) (refuses : S → S → Type 0) where
  -- How far the answers reach where a fault ended the stream, when `read` was read of it and `limit` bytes may be.
  abbrev pub Reaches : ℕ → StreamFault → S → S → List ℕ → List Answer → S → Type 0
  -- each line that ended in what was read is answered
  Reaches limit Read before now read given after = (now ≡ after) × Runs answers before (numbered (whole_lines read)) given after
  -- some lines may have no answer, but each line that the service answered has the answer
  Reaches limit Write before now read given after = IsLeft refuses after now
  Reaches limit Memory before now read given after = IsLeft refuses after now
  -- one byte more than the limit was read, and each line that ended within the limit is answered
  Reaches limit TooLong before now read given after = (length read ≡ limit + 1) × (now ≡ after)
      × Runs answers before (numbered (whole_lines (take limit read))) given after

  -- A fault ended a stream of lines: the first lines of the input are answered, each whole. The names are those of `Finishes`,
  -- and `now` is the service as the fault left it.
  pub record Stops (limit : ℕ) (fault : StreamFault) (before now : S) (input : List ℕ) (left held holds : Option (List ℕ)) : Type 0 where
    pub given : List Answer
    pub after : S
    pub run : RunsFront answers before (numbered input) given after
    pub written : IsWritten fault held holds (text_of given)
    pub read : List ℕ
    pub consumed : Consumes (Some input) left read
    pub reach : Reaches limit fault before now read given after
