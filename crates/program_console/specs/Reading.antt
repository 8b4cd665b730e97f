-- How a source is read: a file that is opened by its name, or standard input. (This project's own choice.)
use Rattle.std.specs.Prelude.{◌≡◌, ◌⊎◌, ℕ, ◌+◌, ◌≤◌, List, [], ◌∷◌, ◌++◌, Option, Result, Ok, Err, codes, length, string_bytes, ⊤}
use Rattle.std.specs.Io.KnownBytes.{Appends, Consumes, IsAtEnd}
use Rattle.std.specs.IoError.{error_kind}
use Rattle.std.specs.declared.io.Error.{Error}
use Rattle.std.specs.declared.io.ErrorKind.TheVariants.{OutOfMemory}
use Rattle.filter_reports.specs.Cuts.{IsCut}
use Rattle.filter_reports.specs.Faults.{stream_fault}
use Rattle.line_protocol.specs.Runs.{ConsumesAtMost}
use Rattle.line_protocol.specs.declared.faults.StreamFault.{StreamFault}
use Rattle.line_protocol.specs.declared.faults.StreamFault.TheVariants as fault
use Rattle.refusal_words.specs.Shown.{shown}
use Rattle.program_words.specs.declared.source.Source.{Source}
use Rattle.program_words.specs.declared.source.Source.TheVariants.{Input, File}
use Rattle.program_console.specs.Streaming.{Streams}
use Rattle.program_console.specs.declared.console.Loaded.{Loaded}
use Rattle.program_console.specs.declared.console.Loaded.TheVariants as loaded
use Rattle.program_console.specs.declared.sources.SourceText.{SourceText}
use Rattle.program_console.specs.declared.sources.SourceText.TheVariants as found
use Rattle.program_console.specs.declared.sources.Unread.{Unread}
use Rattle.program_console.specs.declared.sources.Unread.TheVariants as unread

-- the name of a source
abbrev pub name_of : Source → List ℕ
name_of Input = codes "<stdin>"
name_of (File name) = string_bytes name

-- a line that tells something of what has a name: the name as it is shown, what is said, shown in the same way, and a code
abbrev pub notice_line : List ℕ → List ℕ → List ℕ → List ℕ
notice_line name words code = shown name ++ codes ": " ++ shown words ++ code

-- the line that tells that a source was not read, with its name as it is shown and the words of the reason
abbrev pub unread_line : Source → List ℕ → List ℕ
unread_line source words = notice_line (name_of source) words (codes " (E1)" ++ 10 ∷ [])

-- the line that tells that the text of a filter is longer than its limit
unfoldable pub long_words : List ℕ
long_words = codes "longer than 1048576 bytes"

abbrev pub long_line : Source → List ℕ
long_line source = notice_line (name_of source) long_words (codes " (E4)" ++ 10 ∷ [])

-- the line that tells that a file was not made, with its name as it is shown and the words of the reason
abbrev pub uncreated_line : List ℕ → List ℕ → List ℕ
uncreated_line name words = notice_line name words (codes " (E2)" ++ 10 ∷ [])

-- the line that tells that a new file did not get the whole text
unfoldable pub unwritten_words : List ℕ
unwritten_words = codes "could not be written to its end"

abbrev pub unwritten_line : List ℕ → List ℕ
unwritten_line name = notice_line name unwritten_words (codes " (E2)" ++ 10 ∷ [])

-- A text is all that standard input had, or goes one byte beyond a limit. `known` is what it had, `left` what it has now.
abbrev pub ReadsInput : ℕ → List ℕ → Option (List ℕ) → Option (List ℕ) → Type 0
ReadsInput limit text known left = Consumes known left text × (length text ≤ limit → IsAtEnd left) × (length text ≤ limit + 1)

-- A text is all that a file had, or goes one byte beyond a limit.
abbrev pub ReadsWhole : ℕ → List ℕ → Option (List ℕ) → Type 0
ReadsWhole limit text held = (left : Option (List ℕ)) × ReadsInput limit text held left

-- why a file with this error was not read: E3 for want of memory, and otherwise E1, with the reason that the system gave
abbrev pub IsCause : Error → Unread → Type 0
IsCause error (unread.Broken reason) = (reason ≡ error) × (error_kind error ≡ OutOfMemory → ⊥)
IsCause error unread.Input = ⊥
IsCause error unread.Memory = error_kind error ≡ OutOfMemory
IsCause error unread.TooLong = ⊥

-- a fault of a file: it has a reason, or it is want of memory
abbrev pub IsOfFile : Unread → Type 0
IsOfFile (unread.Broken reason) = ⊤
IsOfFile unread.Input = ⊥
IsOfFile unread.Memory = ⊤
IsOfFile unread.TooLong = ⊥

-- Standard input was not read to its end: a read failed, or memory was refused.
abbrev pub LeavesInput : ℕ → Unread → Option (List ℕ) → Option (List ℕ) → Type 0
LeavesInput limit (unread.Broken reason) known left = ⊥
LeavesInput limit unread.Input known left = ConsumesAtMost (limit + 1) known left
LeavesInput limit unread.Memory known left = ConsumesAtMost (limit + 1) known left
LeavesInput limit unread.TooLong known left = ⊥

-- the line that tells why a source was not read: of a file with a reason, and of a filter that is too long with its limit
abbrev pub IsUnreadLine : Source → Unread → List ℕ → Type 0
IsUnreadLine source (unread.Broken reason) line = (words : List ℕ) × (line ≡ unread_line source words)
IsUnreadLine source unread.Input line = ⊥
IsUnreadLine source unread.Memory line = ⊥
IsUnreadLine source unread.TooLong line = line ≡ long_line source

-- there is no such line, for this fault: standard input that fails is E1, and refused memory is E3
abbrev pub LacksLine : Unread → StreamFault → Type 0
LacksLine (unread.Broken reason) ended = ended ≡ fault.Memory
LacksLine unread.Input ended = ended ≡ fault.Read
LacksLine unread.Memory ended = ended ≡ fault.Memory
LacksLine unread.TooLong ended = ended ≡ fault.Memory

-- Standard error was told that a source was not read. `stderr_before` is what it held, `stderr_after` what it holds now.
abbrev pub TellsUnread : Source → Unread → Option (List ℕ) → Option (List ℕ) → Type 0
TellsUnread source why stderr_before stderr_after = (line : List ℕ) × IsUnreadLine source why line × Appends stderr_before stderr_after line

-- It was not told, or not whole, and this is the fault that comes of it.
abbrev pub StopsTelling : StreamFault → Source → Unread → Option (List ℕ) → Option (List ℕ) → Type 0
StopsTelling ended source why stderr_before stderr_after = (LacksLine why ended × (stderr_after ≡ stderr_before))
    ⊎ ((line : List ℕ) × IsUnreadLine source why line × IsCut ended stderr_before stderr_after line)

-- a text that was read goes at most one byte beyond its limit
abbrev pub IsWithin : ℕ → Loaded → Type 0
IsWithin limit (loaded.Text text) = length text.items ≤ limit + 1
IsWithin limit loaded.Skipped = ⊤
IsWithin limit (loaded.Stopped fault) = ⊤

abbrev pub IsTextWithin : ℕ → SourceText → Type 0
IsTextWithin limit (found.Text text) = length text.items ≤ limit + 1
IsTextWithin limit (found.Unread line) = ⊤

-- `opens name` says what may come of opening a file of this name: what it has to read, or why there is none.
module _ (opens : List ℕ → Result (Option (List ℕ)) Error → Type 0) where
  -- A file of this name was opened and read.
  abbrev pub ReadsFile : ℕ → List ℕ → List ℕ → Type 0
  ReadsFile limit name text = (held : Option (List ℕ)) × opens name (Ok held) × ReadsWhole limit text held

  -- A file of this name was not opened, or it was opened and could not be read.
  abbrev pub LeavesFile : List ℕ → Unread → Type 0
  LeavesFile name why = ((error : Error) × opens name (Err error) × IsCause error why)
      ⊎ ((held : Option (List ℕ)) × opens name (Ok held) × IsOfFile why)

  -- This text was read of a source.
  abbrev pub IsRead : ℕ → Source → List ℕ → Option (List ℕ) → Option (List ℕ) → Type 0
  IsRead limit Input text known left = ReadsInput limit text known left
  IsRead limit (File name) text known left = (left ≡ known) × ReadsFile limit (string_bytes name) text

  -- A source was not read, for this cause.
  abbrev pub IsUnread : ℕ → Source → Unread → Option (List ℕ) → Option (List ℕ) → Type 0
  IsUnread limit Input why known left = LeavesInput limit why known left
  IsUnread limit (File name) why known left = (left ≡ known) × LeavesFile (string_bytes name) why

  -- This text was read of a source, and nothing was written or told.
  pub record Reads (limit : ℕ) (source : Source) (text : List ℕ) (before after : Streams) : Type 0 where
    pub read : IsRead limit source text before.reads after.reads
    pub holds : after.holds ≡ before.holds
    pub tells : after.tells ≡ before.tells

  -- A source was not read, which standard error was told, and nothing was written.
  pub record SkipsUnread (limit : ℕ) (source : Source) (before after : Streams) : Type 0 where
    pub why : Unread
    pub unread : IsUnread limit source why before.reads after.reads
    pub told : TellsUnread source why before.tells after.tells
    pub holds : after.holds ≡ before.holds

  -- A fault kept a source from being read or told of, and nothing was written.
  pub record StopsReading (fault : StreamFault) (limit : ℕ) (source : Source) (before after : Streams) : Type 0 where
    pub why : Unread
    pub unread : IsUnread limit source why before.reads after.reads
    pub told : StopsTelling fault source why before.tells after.tells
    pub holds : after.holds ≡ before.holds

  -- what came of reading a source
  abbrev pub IsLoaded : ℕ → Source → Loaded → Streams → Streams → Type 0
  IsLoaded limit source (loaded.Text text) before after = Reads limit source text.items before after
  IsLoaded limit source loaded.Skipped before after = SkipsUnread limit source before after
  IsLoaded limit source (loaded.Stopped fault) before after = StopsReading (stream_fault fault) limit source before after

  -- A source was not read, and this line tells why.
  abbrev pub IsUnreadBy : ℕ → Source → List ℕ → Option (List ℕ) → Option (List ℕ) → Type 0
  IsUnreadBy limit source line known left = (why : Unread) × IsUnread limit source why known left × IsUnreadLine source why line

  -- what came of a source that is read: its text, or that line
  abbrev pub IsFound : ℕ → Source → SourceText → Option (List ℕ) → Option (List ℕ) → Type 0
  IsFound limit source (found.Text text) known left = IsRead limit source text.items known left
  IsFound limit source (found.Unread line) known left = IsUnreadBy limit source line.items known left

  -- It was not read, and for this fault no line tells why.
  abbrev pub StopsLoading : StreamFault → ℕ → Source → Option (List ℕ) → Option (List ℕ) → Type 0
  StopsLoading ended limit source known left = (why : Unread) × IsUnread limit source why known left × LacksLine why ended
