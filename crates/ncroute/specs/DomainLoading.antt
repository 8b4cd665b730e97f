-- How the file of a whole domain is read, with the filters that it includes, and what is told of it. (This project's own choice.)
use Rattle.std.specs.Prelude.{◌≡◌, ◌⊎◌, ℕ, Bool, true, false, List, [], ◌∷◌, ◌++◌, Option, Some, None, Result, Ok, Err, IsUtf8, codes, decimal}
use Rattle.std.specs.Io.KnownBytes.{Appends}
use Rattle.std.specs.Str.Lines.{lines}
use Rattle.std.specs.declared.io.Error.{Error}
use Rattle.code_file.specs.Spelling.{spelling}
use Rattle.program_words.specs.declared.source.Source.{Source}
use Rattle.domain_cmds.specs.CommandView.{CommandView, Domain}
use Rattle.domain_cmds.specs.Commands.{Read, command_in}
use Rattle.domain_files.specs.Files.{IsFile, IsNoFile}
use Rattle.domain_files.specs.Including as including
use Rattle.domain_files.specs.Including.{Including, include_in}
use Rattle.domain_files.specs.declared.include.Include.{Include}
use Rattle.domain_files.specs.declared.file.WrongFile.{WrongFile}
use Rattle.domain_files.specs.declared.file.WrongFile.TheVariants as wrong
use Rattle.domain_files.specs.declared.file.WrongLine.{WrongLine}
use Rattle.filter_code.specs.CodeView.{CodeView}
use Rattle.ncroute.specs.Filters.{Explains, IsCutExplanation}
use Rattle.filter_source.specs.Limits.{source_limit}
use Rattle.filter_source.specs.declared.diagnosis.Diagnosis.{Diagnosis}
use Rattle.filter_verifier.specs.VerifiedView.{VerifiedView}
use Rattle.hex.specs.Hex.{encode_lower}
use Rattle.filter_reports.specs.Faults.{stream_fault}
use Rattle.line_protocol.specs.Limits.{input_limit}
use Rattle.line_protocol.specs.declared.faults.StreamFault.{StreamFault}
use Rattle.line_protocol.specs.declared.faults.StreamFault.TheVariants.{Memory}
use Rattle.operator_cmds.specs.Script.{GivesText, IsTextDiagnosis, IsVerified}
use Rattle.operator_cmds.specs.declared.watch.RefusedLine.{RefusedLine}
use Rattle.refusal_words.specs.Shown.{shown}
use Rattle.program_console.specs.Limited.{IsText}
use Rattle.program_console.specs.Beside.{IsIncludedPath}
use Rattle.program_words.specs.Sources.{path_of}
use Rattle.program_console.specs.Reading.{Reads, SkipsUnread, StopsReading, name_of}
use Rattle.program_console.specs.Streaming.{Streams}
use Rattle.ncroute.specs.Watching.{IsReported}
use Rattle.program_console.specs.declared.console.Loaded.{Loaded}
use Rattle.program_console.specs.declared.console.Loaded.TheVariants as loaded
use Rattle.ncroute.specs.declared.domain_loading.DomainRead.{DomainRead}
use Rattle.ncroute.specs.declared.domain_loading.DomainRead.TheVariants as read

abbrev pub include_of : Include → Including
include_of = including.include_of

-- ---- the size of the domain, by its line

-- the size that a command gives to a domain, if it does
abbrev pub size_given : CommandView → Option ℕ
size_given (Domain size) = Some size
size_given _ = None

abbrev pub size_read : Read → Option ℕ
size_read (Ok command) = size_given command
size_read (Err why) = None

-- the size that a line gives
unfoldable pub size_in : List ℕ → Option ℕ
size_in line = size_read (command_in line)

-- the size that is known behind a line
abbrev pub size_behind : Option ℕ → List ℕ → Option ℕ
size_behind (Some size) line = Some size
size_behind None line = size_in line

-- ---- a filter that is included

-- the line that stands for one that includes a filter
abbrev pub code_line : List ℕ → CodeView → List ℕ
code_line name program = codes "code " ++ name ++ 32 ∷ encode_lower (spelling program) ++ 10 ∷ []

-- Standard error was told why the filter of a text is refused, and nothing else was done.
pub record TellsRefusal (source : Source) (text : List ℕ) (why : Diagnosis) (before after : Streams) : Type 0 where
  pub told : Explains (name_of source) text why before.tells after.tells
  pub reads : after.reads ≡ before.reads
  pub holds : after.holds ≡ before.holds

-- A fault cut that.
pub record CutsRefusal (fault : StreamFault) (source : Source) (text : List ℕ) (why : Diagnosis) (before after : Streams) : Type 0 where
  pub told : IsCutExplanation fault (name_of source) text why before.tells after.tells
  pub reads : after.reads ≡ before.reads
  pub holds : after.holds ≡ before.holds

-- The filter of a text was verified, and stands as code behind what there was; or it is refused, which was told.
abbrev pub AddsFilter : ℕ → List ℕ → Source → List ℕ → List ℕ → List ℕ → Streams → Streams → Bool → Type 0
AddsFilter size name source text out added before after true = (after ≡ before)
    × ((filter : VerifiedView) × IsVerified (GivesText text) size filter × (added ≡ out ++ code_line name filter.program))
AddsFilter size name source text out added before after false =
    (why : Diagnosis) × IsTextDiagnosis text size why × TellsRefusal source text why before after

-- A fault ended it.
abbrev pub CutsFilter : StreamFault → ℕ → Source → List ℕ → Streams → Streams → Type 0
CutsFilter fault size source text before after = ((fault ≡ Memory) × (after ≡ before))
    ⊎ ((why : Diagnosis) × IsTextDiagnosis text size why × CutsRefusal fault source text why before after)

-- a line that stays as it is
abbrev pub AddsLine : List ℕ → List ℕ → List ℕ → Bool → Type 0
AddsLine line out added is_added = (is_added ≡ true) × (added ≡ out ++ line ++ 10 ∷ [])

-- the source of an include: in the folder of the source that includes it, unless its name counts from the root
abbrev pub IsSourceOf : Source → List ℕ → Source → Type 0
IsSourceOf by name source = (path : List ℕ) × IsIncludedPath (path_of by) name path × (path_of source ≡ Some path)

-- ---- the whole text

-- `opens name` says what may come of opening a file of this name.
module _ (opens : List ℕ → Result (Option (List ℕ)) Error → Type 0) where
  -- The filter of a source was read, and added or refused; or the source was not read, which was told.
  abbrev pub AddsSource : ℕ → List ℕ → Source → List ℕ → List ℕ → Streams → Streams → Bool → Type 0
  AddsSource size name source out added before after is_added =
      ((text : List ℕ) × (mid : Streams) × Reads opens source_limit source text before mid
      × AddsFilter size name source text out added mid after is_added)
      ⊎ (SkipsUnread opens source_limit source before after × (is_added ≡ false))

  -- A fault ended it.
  abbrev pub CutsSource : StreamFault → ℕ → Source → Streams → Streams → Type 0
  CutsSource fault size source before after = StopsReading opens fault source_limit source before after
      ⊎ ((text : List ℕ) × (mid : Streams) × Reads opens source_limit source text before mid × CutsFilter fault size source text mid after)

  -- So it was with the source of a file.
  abbrev pub AddsFile : ℕ → Source → List ℕ → List ℕ → List ℕ → List ℕ → Streams → Streams → Bool → Type 0
  AddsFile size by name file out added before after is_added =
      (source : Source) × IsSourceOf by file source × AddsSource size name source out added before after is_added

  abbrev pub CutsFile : StreamFault → ℕ → Source → List ℕ → Streams → Streams → Type 0
  CutsFile fault size by file before after = ((fault ≡ Memory) × (after ≡ before))
      ⊎ ((source : Source) × IsSourceOf by file source × CutsSource fault size source before after)

  -- So it was with the file of an include; and where its name is not UTF-8, the line became one that is refused.
  abbrev pub AddsIncluded : ℕ → Source → Including → List ℕ → List ℕ → Streams → Streams → Bool → Type 0
  AddsIncluded size by include out added before after is_added =
      (IsUtf8 include.1 × AddsFile size by include.0 include.1 out added before after is_added)
      ⊎ (¬ (IsUtf8 include.1) × AddsLine (codes "include") out added is_added × (after ≡ before))

  abbrev pub CutsIncluded : StreamFault → ℕ → Source → Including → Streams → Streams → Type 0
  CutsIncluded fault size by include before after = ((fault ≡ Memory) × (after ≡ before))
      ⊎ ((source : Source) × IsSourceOf by include.1 source × CutsSource fault size source before after)

  -- A line was added as it is, or as what stands for it where it includes a filter.
  abbrev pub AddsSized : ℕ → Source → List ℕ → Option Including → List ℕ → List ℕ → Streams → Streams → Bool → Type 0
  AddsSized size by line None out added before after is_added = AddsLine line out added is_added × (after ≡ before)
  AddsSized size by line (Some include) out added before after is_added = AddsIncluded size by include out added before after is_added

  -- what stands for it counts once the size of the domain is known
  abbrev pub AddsLineOf : Option ℕ → Source → List ℕ → List ℕ → List ℕ → Streams → Streams → Bool → Type 0
  AddsLineOf None by line out added before after is_added = AddsLine line out added is_added × (after ≡ before)
  AddsLineOf (Some size) by line out added before after is_added = AddsSized size by line (include_in line) out added before after is_added

  -- All lines were added, in order. Behind each of them the size is known that it or an earlier one gives.
  unfoldable pub AddsLines : Source → Option ℕ → List (List ℕ) → List ℕ → List ℕ → Streams → Streams → Type 0
  AddsLines by size [] out added before after = (added ≡ out) × (after ≡ before)
  AddsLines by size (line ∷ others) out added before after = (mid : Streams) × (more : List ℕ)
      × AddsLineOf (size_behind size line) by line out more before mid true
      × AddsLines by (size_behind size line) others more added mid after

  -- One of them was not, behind those before it.
  unfoldable pub StopsAtLine : Source → Option ℕ → List (List ℕ) → List ℕ → Streams → Streams → Type 0
  StopsAtLine by size [] out before after = ⊥
  StopsAtLine by size (line ∷ others) out before after = (mid : Streams) × (more : List ℕ)
      × (AddsLineOf (size_behind size line) by line out more before after false
      ⊎ (AddsLineOf (size_behind size line) by line out more before mid true × StopsAtLine by (size_behind size line) others more mid after))

  -- The text with its filters was put together; or one of these is not there or is refused, which standard error was told.
  abbrev pub Includes : Source → List ℕ → List ℕ → Streams → Streams → Type 0
  Includes by text whole before after = AddsLines by None (lines text) [] whole before after

  abbrev pub LacksIncluded : Source → List ℕ → Streams → Streams → Type 0
  LacksIncluded by text before after = StopsAtLine by None (lines text) [] before after

  abbrev pub IncludesFilters : Source → List ℕ → Option (List ℕ) → Streams → Streams → Type 0
  IncludesFilters by text None before after = LacksIncluded by text before after
  IncludesFilters by text (Some whole) before after = Includes by text whole before after

  -- A script of a domain was read, and put together with the filters that it includes.
  abbrev pub ReadsScript : Source → List ℕ → Streams → Streams → Type 0
  ReadsScript source whole before after =
      (text : List ℕ) × (mid : Streams) × Reads opens input_limit source text before mid × Includes source text whole mid after

  -- It was not read, or one of these filters is not there or is refused, which standard error was told.
  abbrev pub SkipsScript : Source → Streams → Streams → Type 0
  SkipsScript source before after = SkipsUnread opens input_limit source before after
      ⊎ ((text : List ℕ) × (mid : Streams) × Reads opens input_limit source text before mid × LacksIncluded source text mid after)

  -- A fault ended it: in reading it, or in reading what it includes. Nothing was written.
  abbrev pub CutsScript : StreamFault → Source → Streams → Streams → Type 0
  CutsScript fault source before after = StopsReading opens fault input_limit source before after
      ⊎ ((text : List ℕ) × (mid : Streams) × Reads opens input_limit source text before mid × (after.holds ≡ mid.holds))

  -- what came of reading a script
  abbrev pub IsScript : Source → Loaded → Streams → Streams → Type 0
  IsScript source (loaded.Text whole) before after = ReadsScript source whole.items before after
  IsScript source loaded.Skipped before after = SkipsScript source before after
  IsScript source (loaded.Stopped fault) before after = CutsScript (stream_fault fault) source before after

-- ---- what is told of a file that sets no domain up

abbrev pub at_line : Option ℕ → List ℕ
at_line None = []
at_line (Some number) = 58 ∷ decimal number ++ codes ":1"

abbrev pub wrong_words : List ℕ → Option ℕ → List ℕ → List ℕ
wrong_words name number words = shown name ++ at_line number ++ codes ": " ++ words ++ 10 ∷ []

abbrev pub name_again : List ℕ
name_again = codes "a filter has this name already, and a router knows its filters by their names"

-- the line that is refused, as those see it who tell why
abbrev pub Shows : WrongLine → RefusedLine → Type 0
Shows it refused = (refused.number ≡ it.number) × (refused.line.now ≡ it.line.items) × (refused.answer.now ≡ it.answer.items)

-- of such a line it is told in words, unless memory is refused or standard error takes none
abbrev pub TellsLine : List ℕ → WrongLine → Option (List ℕ) → Option (List ℕ) → Type 0
TellsLine name it stderr_before stderr_after = (refused : RefusedLine) × Shows it refused × IsReported name refused stderr_before stderr_after

abbrev pub TellsWrong : List ℕ → WrongFile → Option (List ℕ) → Option (List ℕ) → Type 0
TellsWrong name (wrong.Refused it) stderr_before stderr_after = TellsLine name it stderr_before stderr_after
TellsWrong name (wrong.NameAgain number) stderr_before stderr_after = Appends stderr_before stderr_after (wrong_words name (Some number) name_again)
TellsWrong name wrong.NoDomain stderr_before stderr_after = Appends stderr_before stderr_after (wrong_words name None (codes "no line says `domain N`"))
TellsWrong name wrong.Memory stderr_before stderr_after = ⊥

-- A text sets this domain up; or it sets none up, which standard error was told.
abbrev pub SetsUp : List ℕ → List ℕ → Streams → Streams → DomainRead → Type 0
SetsUp name whole before after (read.File file) = IsFile whole file × (after ≡ before)
SetsUp name whole before after read.Unread = ⊥
SetsUp name whole before after read.Wrong = (why : WrongFile) × IsNoFile whole why × TellsWrong name why before.tells after.tells
    × (after.reads ≡ before.reads)

module _ (opens : List ℕ → Result (Option (List ℕ)) Error → Type 0) where
  -- The text of a source was read, and put together with its filters; or it is not there, which standard error was told.
  abbrev pub IsWhole : Source → Option (List ℕ) → Streams → Streams → Type 0
  IsWhole source whole before after =
      ((text : List ℕ) × (mid : Streams) × IsText opens source (Some text) before mid × IncludesFilters opens source text whole mid after)
      ⊎ (IsText opens source None before after × (whole ≡ None))

  -- The whole text of a source sets this domain up, or none; or it is not there.
  abbrev pub LoadsFrom : Source → Streams → Streams → DomainRead → Type 0
  LoadsFrom source before after found =
      ((whole : List ℕ) × (mid : Streams) × IsWhole source (Some whole) before mid × SetsUp (name_of source) whole mid after found)
      ⊎ (IsWhole source None before after × (found ≡ read.Unread))

  -- The file was read with its filters, and sets this domain up; or something was not read or is refused; or it is no such file. What is wrong
  -- standard error was told.
  abbrev pub LoadsDomain : List ℕ → Streams → Streams → DomainRead → Type 0
  LoadsDomain name before after found = (source : Source) × (path_of source ≡ Some name) × (after.holds ≡ before.holds)
      × LoadsFrom source before after found

  -- A fault ended it, and nothing was written.
  abbrev pub CutsDomain : StreamFault → List ℕ → Streams → Streams → Type 0
  CutsDomain fault name before after = after.holds ≡ before.holds
