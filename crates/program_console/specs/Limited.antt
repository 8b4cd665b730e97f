-- How a configuration is read, which has a limit. (This project's own choice.)
use Rattle.std.specs.Prelude.{◌≡◌, ◌⊎◌, ◌<◌, ◌≤◌, ◌++◌, ℕ, List, [], ◌∷◌, Option, Some, None, Result, codes, length}
use Rattle.std.specs.declared.io.Error.{Error}
use Rattle.line_protocol.specs.Limits.{input_limit}
use Rattle.line_protocol.specs.declared.faults.StreamFault.{StreamFault}
use Rattle.program_words.specs.declared.source.Source.{Source}
use Rattle.program_console.specs.Reading.{Reads, SkipsUnread, StopsReading, name_of, notice_line}
use Rattle.program_console.specs.Streaming.{CutsTelling, Streams, Tells}

-- the words where a configuration is longer than its limit
unfoldable pub long_config : List ℕ
long_config = codes "longer than 16777216 bytes"

abbrev pub long_config_line : Source → List ℕ
long_config_line source = notice_line (name_of source) long_config (codes " (E4)" ++ 10 ∷ [])

-- A text is taken, if it is within the limit; and otherwise standard error was told that it is not.
abbrev pub TakesWithin : Source → List ℕ → Option (List ℕ) → Streams → Streams → Type 0
TakesWithin source text None before after = (input_limit < length text) × Tells (long_config_line source) before after
TakesWithin source text (Some taken) before after = (length text ≤ input_limit) × (taken ≡ text) × (after ≡ before)

-- What was to be told of a text that goes beyond the limit was cut.
abbrev pub CutsWithin : StreamFault → Source → List ℕ → Streams → Streams → Type 0
CutsWithin fault source text before after = (input_limit < length text) × CutsTelling fault (long_config_line source) before after

-- `opens name` says what may come of opening a file of this name.
module _ (opens : List ℕ → Result (Option (List ℕ)) Error → Type 0) where
  -- This is all the text of a source, which is within the limit.
  pub record ReadsText (source : Source) (text : List ℕ) (before after : Streams) : Type 0 where
    pub reads : Reads opens input_limit source text before after
    pub within : length text ≤ input_limit

  -- The text goes beyond the limit, which standard error was told.
  pub record SkipsLong (source : Source) (before after : Streams) : Type 0 where
    pub text : List ℕ
    pub mid : Streams
    pub reads : Reads opens input_limit source text before mid
    pub long : input_limit < length text
    pub told : Tells (long_config_line source) mid after

  -- A source was not read, which standard error was told: there is no such file or it cannot be read, or it is too long.
  abbrev pub SkipsText : Source → Streams → Streams → Type 0
  SkipsText source before after = SkipsUnread opens input_limit source before after ⊎ SkipsLong source before after

  -- the text of a source, or none where it was not read
  abbrev pub IsText : Source → Option (List ℕ) → Streams → Streams → Type 0
  IsText source None before after = SkipsText source before after
  IsText source (Some text) before after = ReadsText source text before after

  -- A fault kept a source from being read or told of, or cut what was to be told of its length.
  abbrev pub StopsText : StreamFault → Source → Streams → Streams → Type 0
  StopsText fault source before after = StopsReading opens fault input_limit source before after
      ⊎ ((text : List ℕ) × (mid : Streams) × Reads opens input_limit source text before mid × CutsWithin fault source text mid after)
