-- How the filters that a script is started with are read, and how it is told that one of them is refused. (This project's own choice.)
use Rattle.std.specs.Prelude.{◌≡◌, ◌⊎◌, ◌<◌, ◌≤◌, ◌++◌, ℕ, zero, suc, List, [], ◌∷◌, Option, Some, None, Result, length, slice_get, string_bytes}
use Rattle.std.specs.declared.io.Error.{Error}
use Rattle.filter_reports.specs.Faults.{stream_fault}
use Rattle.filter_source.specs.Limits.{source_limit}
use Rattle.filter_source.specs.declared.diagnosis.Diagnosis.{Diagnosis}
use Rattle.filter_reports.specs.Cuts.{IsCut}
use Rattle.refusal_words.specs.Explanations.{IsExplanation}
use Rattle.std.specs.Io.KnownBytes.{Appends}
use Rattle.line_protocol.specs.declared.faults.StreamFault.{StreamFault}
use Rattle.line_protocol.specs.declared.faults.StreamFault.TheVariants.{Memory}
use Rattle.router_script.specs.declared.filter_naming.NamedFilter.{NamedFilter}
use Rattle.router_script.specs.declared.filter_naming.Unfit.{Unfit}
use Rattle.program_words.specs.declared.source.Source.{Source}
use Rattle.command_line.specs.declared.filter_words.NamedFile.{NamedFile}
use Rattle.program_console.specs.Reading.{IsRead, IsUnread, StopsTelling, TellsUnread, name_of}
use Rattle.program_console.specs.Streaming.{Streams}
use Rattle.ncroute.specs.declared.filters.LoadedFilters.{LoadedFilters}
use Rattle.ncroute.specs.declared.filters.LoadedFilters.TheVariants as loaded
use Rattle.program_console.specs.declared.sources.Unread.{Unread}
use Rattle.program_console.specs.declared.sources.Unread.TheVariants as unread

-- `opens name` says what may come of opening a file of this name.
module _ (opens : List ℕ → Result (Option (List ℕ)) Error → Type 0) where
  -- A filter was read: its name is the one that was given, and its text is all that its source has. `known` is what standard input had
  -- before, `left` what it has now.
  pub record ReadsFilter (file : NamedFile) (filter : NamedFilter) (known left : Option (List ℕ)) : Type 0 where
    pub name : filter.name.items ≡ string_bytes file.name
    pub origin : filter.origin.items ≡ name_of file.source
    pub text : IsRead opens source_limit file.source filter.text.items known left
    pub within : length filter.text.items ≤ source_limit

  -- A filter was not read: its source was not, or it is longer than its limit. Where memory is refused nothing is said of it.
  abbrev pub LeavesFilter : NamedFile → Unread → Option (List ℕ) → Option (List ℕ) → Type 0
  LeavesFilter file why known left = (why ≡ unread.Memory) ⊎ (IsUnread opens source_limit file.source why known left
      ⊎ ((text : List ℕ) × IsRead opens source_limit file.source text known left × (source_limit < length text) × (why ≡ unread.TooLong)))

  -- The first n of some filters were read, in order.
  unfoldable pub ReadsFirst : List NamedFile → ℕ → List NamedFilter → Option (List ℕ) → Option (List ℕ) → Type 0
  ReadsFirst files zero filters known left = (filters ≡ []) × (left ≡ known)
  ReadsFirst files (suc n) filters known left = (file : NamedFile) × (filter : NamedFilter) × (earlier : List NamedFilter)
      × (mid : Option (List ℕ)) × (slice_get files n ≡ Some file) × ReadsFirst files n earlier known mid
      × ReadsFilter file filter mid left × (filters ≡ earlier ++ filter ∷ [])

  -- all of them were
  abbrev pub ReadsFilters : List NamedFile → List NamedFilter → Option (List ℕ) → Option (List ℕ) → Type 0
  ReadsFilters files filters known left = ReadsFirst files (length files) filters known left

  -- The first that was not read is this one.
  pub record StopsAtFilter (files : List NamedFile) (source : Source) (why : Unread) (known left : Option (List ℕ)) : Type 0 where
    pub n : ℕ
    pub file : NamedFile
    pub is_file : slice_get files n ≡ Some file
    pub is_source : source ≡ file.source
    pub earlier : List NamedFilter
    pub mid : Option (List ℕ)
    pub first : ReadsFirst files n earlier known mid
    pub leaves : LeavesFilter file why mid left

  -- The filters were read, in order, and nothing was written or told.
  pub record ReadsThem (files : List NamedFile) (filters : List NamedFilter) (before after : Streams) : Type 0 where
    pub read : ReadsFilters files filters before.reads after.reads
    pub holds : after.holds ≡ before.holds
    pub tells : after.tells ≡ before.tells

  -- One of them was not read, which standard error was told, and nothing was written.
  pub record SkipsFilter (files : List NamedFile) (before after : Streams) : Type 0 where
    pub source : Source
    pub why : Unread
    pub stops : StopsAtFilter files source why before.reads after.reads
    pub told : TellsUnread source why before.tells after.tells
    pub holds : after.holds ≡ before.holds

  -- A fault kept one from being read or told of, and nothing was written.
  pub record StopsAtFault (fault : StreamFault) (files : List NamedFile) (before after : Streams) : Type 0 where
    pub source : Source
    pub why : Unread
    pub stops : StopsAtFilter files source why before.reads after.reads
    pub told : StopsTelling fault source why before.tells after.tells
    pub holds : after.holds ≡ before.holds

  -- what came of reading them
  abbrev pub AreLoaded : List NamedFile → LoadedFilters → Streams → Streams → Type 0
  AreLoaded files (loaded.All filters) before after = ReadsThem files filters.items before after
  AreLoaded files loaded.Skipped before after = SkipsFilter files before after
  AreLoaded files (loaded.Stopped fault) before after = StopsAtFault (stream_fault fault) files before after

-- Standard error was told why the filter of a text is refused, at its place in its source. `stderr_before` is what it held before, `stderr_after`
-- what it holds now.
abbrev pub Explains : List ℕ → List ℕ → Diagnosis → Option (List ℕ) → Option (List ℕ) → Type 0
Explains name text why stderr_before stderr_after = (words : List ℕ) × IsExplanation name text why words × Appends stderr_before stderr_after words

-- it was told so of one of the filters that a script is started with
abbrev pub TellsOfFilter : Option NamedFilter → Diagnosis → Option (List ℕ) → Option (List ℕ) → Type 0
TellsOfFilter None why stderr_before stderr_after = stderr_after ≡ stderr_before
TellsOfFilter (Some filter) why stderr_before stderr_after = Explains filter.origin.items filter.text.items why stderr_before stderr_after

-- so it was where one of these filters is
abbrev pub TellsUnfit : List NamedFilter → Option Unfit → Option (List ℕ) → Option (List ℕ) → Type 0
TellsUnfit filters None stderr_before stderr_after = stderr_after ≡ stderr_before
TellsUnfit filters (Some unfit) stderr_before stderr_after = TellsOfFilter (slice_get filters unfit.index) unfit.diagnosis stderr_before stderr_after

-- Memory was refused before that, or a fault cut it.
abbrev pub IsCutExplanation : StreamFault → List ℕ → List ℕ → Diagnosis → Option (List ℕ) → Option (List ℕ) → Type 0
IsCutExplanation fault name text why stderr_before stderr_after = ((fault ≡ Memory) × (stderr_after ≡ stderr_before))
    ⊎ ((words : List ℕ) × IsExplanation name text why words × IsCut fault stderr_before stderr_after words)

abbrev pub IsCutFilter : StreamFault → Option NamedFilter → Diagnosis → Option (List ℕ) → Option (List ℕ) → Type 0
IsCutFilter fault None why stderr_before stderr_after = ⊥
IsCutFilter fault (Some filter) why stderr_before stderr_after = IsCutExplanation fault filter.origin.items filter.text.items why stderr_before stderr_after

abbrev pub IsCutUnfit : StreamFault → List NamedFilter → Option Unfit → Option (List ℕ) → Option (List ℕ) → Type 0
IsCutUnfit fault filters None stderr_before stderr_after = ⊥
IsCutUnfit fault filters (Some unfit) stderr_before stderr_after = IsCutFilter fault (slice_get filters unfit.index) unfit.diagnosis stderr_before stderr_after
