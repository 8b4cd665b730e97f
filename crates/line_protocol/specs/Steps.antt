-- How far an engine has come.
use Rattle.std.specs.Prelude.{◌≡◌, ℕ, ◌+◌, ◌<◌, ◌≤◌, Bool, false, List, [], ◌∷◌, ◌++◌, ◌⊎◌, Option, length, take, slice_index}
use Rattle.std.specs.Str.Lines.{lines}
use Rattle.line_protocol.specs.Answers.{Answer, is_over, refusals, text_of}
use Rattle.line_protocol.specs.Lines.{answerable_from, is_line_feed}
use Rattle.line_protocol.specs.Runs.{IsLeft, Runs, RunsFront, IsWritten}
use Rattle.line_protocol.specs.declared.faults.StreamFault.{StreamFault}
use Rattle.line_protocol.specs.declared.faults.StreamFault.TheVariants.{Write, Memory}

-- From one state of the service to the next these lines got these answers. `first` and `next` are the numbers of the lines
-- before and after them, `already` and `refused` the refusals counted before and with them; `over` says that one ended the stream.
pub record Advances {S : Type 0} (answers : S → ℕ → List ℕ → Answer → S → Type 0) (before after : S)
    (all : List (List ℕ)) (given : List Answer) (first next already refused : ℕ) (over : Bool) : Type 0 where
  pub run : Runs answers before (answerable_from first all) given after
  pub counted : refused ≡ already + refusals given
  pub ended : over ≡ is_over given
  pub next_number : next ≡ first + length all

-- a text of whole lines: it is empty or ends with a line feed
abbrev pub IsWhole : List ℕ → Type 0
IsWhole text = (text ≡ []) ⊎ ((front : List ℕ) × (text ≡ front ++ 10 ∷ []))

-- Of these bytes the first `at` are whole lines, and they got these answers. The other names are those of `Advances`.
pub record AnswersFront {S : Type 0} (answers : S → ℕ → List ℕ → Answer → S → Type 0) (before after : S)
    (bytes : List ℕ) (at : ℕ) (given : List Answer) (first next already refused : ℕ) (over : Bool) : Type 0 where
  pub advances : Advances answers before after (lines (take at bytes)) given first next already refused over
  pub within : at ≤ length bytes
  pub whole : IsWhole (take at bytes)
  pub low : next ≤ first + at

-- The writer failed, or memory was refused. Until then the first lines of these bytes and of what follows them were
-- answered, the first of them numbered `first`, and the writer got these answers, or a front of them if it failed.
pub record BreaksOff {S : Type 0} (answers : S → ℕ → List ℕ → Answer → S → Type 0) (refuses : S → S → Type 0) (fault : StreamFault)
    (before now : S) (bytes : List ℕ) (first : ℕ) (held holds : Option (List ℕ)) : Type 0 where
  pub given : List Answer
  pub after : S
  pub run : (left : List ℕ) → RunsFront answers before (answerable_from first (lines (bytes ++ left))) given after
  pub written : IsWritten fault held holds (text_of given)
  pub kind : (fault ≡ Write) ⊎ (fault ≡ Memory)
  pub left : IsLeft refuses after now

-- the same for a last line without a line feed, which nothing follows
pub record EndsOff {S : Type 0} (answers : S → ℕ → List ℕ → Answer → S → Type 0) (refuses : S → S → Type 0) (fault : StreamFault)
    (before now : S) (bytes : List ℕ) (first : ℕ) (held holds : Option (List ℕ)) : Type 0 where
  pub given : List Answer
  pub after : S
  pub run : RunsFront answers before (answerable_from first (lines bytes)) given after
  pub written : IsWritten fault held holds (text_of given)
  pub kind : (fault ≡ Write) ⊎ (fault ≡ Memory)
  pub left : IsLeft refuses after now

-- no line ends in this part of a text
abbrev pub NoneEnds : List ℕ → ℕ → ℕ → Type 0
NoneEnds text from to = (k : ℕ) → from ≤ k → k < to → is_line_feed (slice_index text k) ≡ false
