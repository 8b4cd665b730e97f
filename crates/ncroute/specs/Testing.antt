-- What the program does with test files. (This project's own choice; the lines are those of the Test Anything Protocol.)
use Rattle.std.specs.Prelude.{◌≡◌, ◌≤◌, ◌⊎◌, ◌+◌, ◌^◌, ℕ, true, List, [], Option, Result, Ok, Err, IsUtf8, length, string_bytes}
use Rattle.std.specs.declared.io.Error.{Error}
use Rattle.filter_checks.specs.Faults.{fault_text}
use Rattle.filter_checks.specs.Files.{FileView, file_in}
use Rattle.filter_checks.specs.Places.{path_beside}
use Rattle.filter_checks.specs.Results.{end_in, head_in}
use Rattle.filter_checks.specs.Testing.{IsTestReport, SkipsTests}
use Rattle.filter_checks.specs.declared.test_file.TestFileFault.{TestFileFault}
use Rattle.filter_checks.specs.declared.test_file.TestFileFault.TheVariants.{Name}
use Rattle.filter_reports.specs.Reports.{ReportView}
use Rattle.filter_source.specs.Limits.{source_limit}
use Rattle.line_protocol.specs.declared.faults.StreamFault.{StreamFault}
use Rattle.line_protocol.specs.declared.faults.StreamFault.TheVariants.{Memory, TooLong}
use Rattle.program_console.specs.Commands.{text_of}
use Rattle.program_console.specs.Ending.{worst_status}
use Rattle.program_console.specs.Following.{CutsLater, DoesAll}
use Rattle.program_console.specs.Putting.{CutsPut, CutsReport, Puts, TakesReport}
use Rattle.program_console.specs.Reading.{IsRead, IsUnreadBy, StopsLoading, name_of}
use Rattle.program_console.specs.Streaming.{CutsWriting, Streams, Writes}
use Rattle.program_words.specs.declared.source.Source.{Source}
use Rattle.program_words.specs.declared.source.Source.TheVariants.{Input, File}
use Rattle.report_formats.specs.declared.options.TestOptions.{TestOptions}
use Rattle.ncroute.specs.declared.testing.Tally.{Tally}

-- no test was run
abbrev pub none_run : Tally
none_run = record { count = 0; status = 0 }

-- the source is the file of this name
abbrev pub IsFileAt : List ℕ → Source → Type 0
IsFileAt path Input = ⊥
IsFileAt path (File name) = string_bytes name ≡ path

-- the report on a text of this name that is no test file, and the number of tests in the stream then
abbrev pub IsFaulty : TestOptions → ℕ → List ℕ → TestFileFault → ReportView → ℕ → Type 0
IsFaulty how before name why report count =
    SkipsTests how before name (fault_text how.is_explained name why) (fault_text true name why) report count

-- what stands behind all tests
abbrev pub end_report : TestOptions → Tally → ReportView
end_report how tally = record { out = end_in how.format tally.count; err = []; status = tally.status }

-- `opens name` says what may come of opening a file of this name. `before` is the number of tests before these in the stream, `count` that behind them.
module _ (opens : List ℕ → Result (Option (List ℕ)) Error → Type 0) where
  -- The filter of a test file was read from its source, and this is the report on the tests by it; or it was not read.
  abbrev pub TestsBeside : TestOptions → ℕ → List ℕ → FileView → Source → ReportView → ℕ → Option (List ℕ) → Option (List ℕ) → Type 0
  TestsBeside how before name file source report count known left =
      ((text : List ℕ) × IsRead opens source_limit source text known left × IsTestReport how before name file (text_of source text) report count)
      ⊎ ((line : List ℕ) × IsUnreadBy opens source_limit source line known left × SkipsTests how before name line line report count)

  -- That source is the file of this name. A name that is not UTF-8 is no name of a file.
  unfoldable pub TestsAt : TestOptions → ℕ → List ℕ → FileView → List ℕ → ReportView → ℕ → Option (List ℕ) → Option (List ℕ) → Type 0
  TestsAt how before name file path report count known left =
      ((source : Source) × IsFileAt path source × TestsBeside how before name file source report count known left)
      ⊎ ((IsUtf8 path → ⊥) × (left ≡ known) × IsFaulty how before name Name report count)

  -- It is the name of the file beside the test file that it names.
  abbrev pub TestsFile : TestOptions → ℕ → List ℕ → FileView → ReportView → ℕ → Option (List ℕ) → Option (List ℕ) → Type 0
  TestsFile how before name file report count known left = TestsAt how before name file (path_beside name file.filter) report count known left

  -- This is the report on the tests that a text has; or it is no test file.
  unfoldable pub TestsText : TestOptions → ℕ → List ℕ → List ℕ → ReportView → ℕ → Option (List ℕ) → Option (List ℕ) → Type 0
  TestsText how before name text report count known left =
      ((file : FileView) × (file_in text ≡ Ok file) × TestsFile how before name file report count known left)
      ⊎ ((why : TestFileFault) × (file_in text ≡ Err why) × (left ≡ known) × IsFaulty how before name why report count)

  -- A source was read, and this is the report on its tests; or it was not read.
  abbrev pub TestsSource : TestOptions → ℕ → Source → ReportView → ℕ → Option (List ℕ) → Option (List ℕ) → Type 0
  TestsSource how before source report count known left =
      ((text : List ℕ) × (mid : Option (List ℕ)) × IsRead opens source_limit source text known mid
      × TestsText how before (name_of source) text report count mid left)
      ⊎ ((line : List ℕ) × IsUnreadBy opens source_limit source line known left × SkipsTests how before (name_of source) line line report count)

  -- A source was not read: no line tells why, or memory was refused for the report that does.
  abbrev pub StopsTold : StreamFault → Source → Option (List ℕ) → Option (List ℕ) → Type 0
  StopsTold fault source known left = StopsLoading opens fault source_limit source known left
      ⊎ ((line : List ℕ) × IsUnreadBy opens source_limit source line known left × (fault ≡ Memory))

  -- The same of the filter of a test file; or it was read, and memory was refused.
  abbrev pub StopsBeside : StreamFault → Source → Option (List ℕ) → Option (List ℕ) → Type 0
  StopsBeside fault source known left = StopsTold fault source known left
      ⊎ ((text : List ℕ) × IsRead opens source_limit source text known left × (fault ≡ Memory))

  unfoldable pub StopsAt : StreamFault → List ℕ → Option (List ℕ) → Option (List ℕ) → Type 0
  StopsAt fault path known left = ((fault ≡ Memory) × (left ≡ known))
      ⊎ ((source : Source) × IsFileAt path source × StopsBeside fault source known left)

  -- Or tests that a number of 64 bits cannot count are not run.
  unfoldable pub StopsFile : StreamFault → ℕ → List ℕ → FileView → Option (List ℕ) → Option (List ℕ) → Type 0
  StopsFile fault before name file known left = ((2 ^ 64 ≤ before + length file.tests) × (fault ≡ TooLong) × (left ≡ known))
      ⊎ (((fault ≡ Memory) × (left ≡ known)) ⊎ StopsAt fault (path_beside name file.filter) known left)

  unfoldable pub StopsText : StreamFault → ℕ → List ℕ → List ℕ → Option (List ℕ) → Option (List ℕ) → Type 0
  StopsText fault before name text known left = ((fault ≡ Memory) × (left ≡ known))
      ⊎ ((file : FileView) × (file_in text ≡ Ok file) × StopsFile fault before name file known left)

  -- A fault kept a test file from being read, or its tests from being run; or no test more can be counted.
  unfoldable pub StopsSource : StreamFault → ℕ → Source → Option (List ℕ) → Option (List ℕ) → Type 0
  StopsSource fault before source known left = ((2 ^ 64 ≤ before + 1) × (fault ≡ TooLong) × (left ≡ known))
      ⊎ (StopsTold fault source known left
      ⊎ ((text : List ℕ) × (mid : Option (List ℕ)) × IsRead opens source_limit source text known mid
      × StopsText fault before (name_of source) text mid left))

  -- The report on the tests of one source more was written.
  pub record TestsNext (how : TestOptions) (earlier : Tally) (source : Source) (before after : Streams) (now : Tally) : Type 0 where
    pub count : ℕ
    pub status : ℕ
    pub puts : Puts (λ report. TestsSource how earlier.count source report count) before after status
    pub counted : now ≡ record { count = count; status = worst_status earlier.status status }

  -- A fault ended it.
  abbrev pub StopsNext : StreamFault → TestOptions → Tally → Source → Streams → Streams → Type 0
  StopsNext fault how earlier source before after =
      CutsPut fault (λ report known left. (count : ℕ) × TestsSource how earlier.count source report count known left)
      (StopsSource fault earlier.count source) before after

-- What stands behind all tests was written.
abbrev pub EndsTests : TestOptions → Tally → Streams → Streams → ℕ → Type 0
EndsTests how tally before after status = TakesReport (end_report how tally) before after × (status ≡ tally.status)

abbrev pub StopsEnd : StreamFault → TestOptions → Tally → Streams → Streams → Type 0
StopsEnd fault how tally before after = ((fault ≡ Memory) × (after ≡ before)) ⊎ CutsReport fault (end_report how tally) before after

module _ (opens : List ℕ → Result (Option (List ℕ)) Error → Type 0) where
  -- What stands before all tests was written, the reports on the tests of each source, in order, and what stands behind them.
  pub record TestsSources (how : TestOptions) (sources : List Source) (before after : Streams) (status : ℕ) : Type 0 where
    pub begun : Streams
    pub mid : Streams
    pub tally : Tally
    pub head : Writes (head_in how.format) before begun
    pub run : DoesAll none_run (TestsNext opens how) sources begun mid tally
    pub end : EndsTests how tally mid after status

  -- The end was cut.
  pub record CutsLast (fault : StreamFault) (how : TestOptions) (sources : List Source) (before after : Streams) : Type 0 where
    pub begun : Streams
    pub mid : Streams
    pub tally : Tally
    pub head : Writes (head_in how.format) before begun
    pub run : DoesAll none_run (TestsNext opens how) sources begun mid tally
    pub end : StopsEnd fault how tally mid after

  -- A fault ended it all: the first line was cut, or what is said of a test file, or the end.
  unfoldable pub StopsTesting : StreamFault → TestOptions → List Source → Streams → Streams → Type 0
  StopsTesting fault how sources before after = CutsWriting fault (head_in how.format) before after
      ⊎ (((begun : Streams) × Writes (head_in how.format) before begun
      × CutsLater none_run (TestsNext opens how) (StopsNext opens fault how) sources begun after)
      ⊎ CutsLast fault how sources before after)
