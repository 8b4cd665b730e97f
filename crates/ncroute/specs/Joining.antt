-- The script of a router that sources are, one after another. (This project's own choice.)
use Rattle.std.specs.Prelude.{◌≡◌, ◌⊎◌, ◌==◌, ◌&&◌, ◌-◌, ℕ, zero, suc, Bool, true, false, MatchBool, if◌then◌else◌, List, [], ◌∷◌}
use Rattle.std.specs.Prelude.{◌++◌, Option, Some, None, Result, count_by, length, min, slice_get}
use Rattle.std.specs.declared.io.Error.{Error}
use Rattle.line_protocol.specs.Limits.{input_limit}
use Rattle.line_protocol.specs.Lines.{is_line_feed}
use Rattle.line_protocol.specs.declared.faults.StreamFault.{StreamFault}
use Rattle.router_script.specs.declared.filter_naming.NamedFilter.{NamedFilter}
use Rattle.program_words.specs.Sources.{is_input}
use Rattle.command_line.specs.declared.requests.RunOptions.{RunOptions}
use Rattle.program_words.specs.declared.source.Source.{Source}
use Rattle.ncroute.specs.Filters.{ReadsThem, SkipsFilter, StopsAtFault}
use Rattle.ncroute.specs.Guiding.{GuidesScript, StopsGuided}
use Rattle.program_console.specs.Reading.{IsRead, IsUnread, StopsTelling, TellsUnread, name_of}
use Rattle.program_console.specs.Streaming.{Streams}
use Rattle.program_console.specs.declared.sources.Unread.{Unread}
use Rattle.program_console.specs.declared.sources.Unread.TheVariants as unread
use Rattle.ncroute.specs.declared.watcher.ScriptPart.{ScriptPart}

-- a text has no line that no line feed ends: its last byte is one, or it has none
abbrev pub is_end : Option ℕ → Bool
is_end None = true
is_end (Some byte) = byte == 10

abbrev pub ends_line : List ℕ → Bool
ends_line text = is_end (slice_get text (length text - 1))

-- a text, and a line feed where its last line has none
abbrev pub ended : List ℕ → List ℕ
ended text = if ends_line text then text else text ++ 10 ∷ []

-- how many lines of a script end; there is no higher number of a line than the greatest of 32 bits
abbrev pub lines_of : List ℕ → ℕ
lines_of script = min (count_by is_line_feed script) 4294967295

-- the first source is standard input
abbrev pub begins_with_input : Option Source → Bool
begins_with_input None = false
begins_with_input (Some source) = is_input source

-- these sources are standard input alone
abbrev pub is_input_alone : List Source → Bool
is_input_alone sources = begins_with_input (slice_get sources 0) && (length sources == 1)

-- a source is the next part of a script: it has the source's name, and begins behind the lines that are there, of which the last then ends
abbrev pub AddsPart : Source → List ℕ → List ScriptPart → List ScriptPart → Type 0
AddsPart source script before after =
    (part : ScriptPart) × (part.name.now ≡ name_of source) × (part.before ≡ lines_of (ended script)) × (after ≡ before ++ part ∷ [])

-- `opens name` says what may come of opening a file of this name.
module _ (opens : List ℕ → Result (Option (List ℕ)) Error → Type 0) where
  -- A source was read to its end, or to the limit, and its text added to a script, whose last line ends before it. `known` is what standard input had
  -- before, `left` what it has now.
  abbrev pub JoinsNext : Source → List ℕ → List ℕ → Option (List ℕ) → Option (List ℕ) → Type 0
  JoinsNext source earlier script known left =
      (text : List ℕ) × IsRead opens input_limit source text known left × (script ≡ ended earlier ++ text)

  -- It was not: it was not read, or memory was refused for what was read.
  abbrev pub LeavesNext : Source → Unread → Option (List ℕ) → Option (List ℕ) → Type 0
  LeavesNext source why known left = IsUnread opens input_limit source why known left
      ⊎ ((text : List ℕ) × IsRead opens input_limit source text known left × (why ≡ unread.Memory))

  -- The first n of some sources were read, in order, and the script is their texts, one after another.
  unfoldable pub JoinsFirst : List Source → ℕ → List ℕ → Option (List ℕ) → Option (List ℕ) → Type 0
  JoinsFirst sources zero script known left = (script ≡ []) × (left ≡ known)
  JoinsFirst sources (suc n) script known left = (source : Source) × (earlier : List ℕ) × (mid : Option (List ℕ))
      × (slice_get sources n ≡ Some source) × JoinsFirst sources n earlier known mid × JoinsNext source earlier script mid left

  -- all of them were
  abbrev pub JoinsAll : List Source → List ℕ → Option (List ℕ) → Option (List ℕ) → Type 0
  JoinsAll sources script known left = JoinsFirst sources (length sources) script known left

  -- The first that was not read is this one.
  pub record StopsAtSource (sources : List Source) (source : Source) (why : Unread) (known left : Option (List ℕ)) : Type 0 where
    pub n : ℕ
    pub is_source : slice_get sources n ≡ Some source
    pub earlier : List ℕ
    pub mid : Option (List ℕ)
    pub first : JoinsFirst sources n earlier known mid
    pub leaves : LeavesNext source why mid left

  -- The sources were read, in order, the script is their texts, one after another, and nothing was written or told.
  pub record JoinsThem (sources : List Source) (script : List ℕ) (before after : Streams) : Type 0 where
    pub joins : JoinsAll sources script before.reads after.reads
    pub holds : after.holds ≡ before.holds
    pub tells : after.tells ≡ before.tells

-- `creates name` says what may come of making a file of this name, and `leaves name` what a new one held when it was closed.
module _ (creates : List ℕ → Result (Option (List ℕ)) Error → Type 0) (leaves : List ℕ → Option (List ℕ) → Type 0)
    (opens : List ℕ → Result (Option (List ℕ)) Error → Type 0) where
  -- The sources were read, and the script that they are was carried out; or one of them was not read, and no line was answered.
  unfoldable pub RunsTexts : RunOptions → List NamedFilter → List Source → Streams → Streams → ℕ → Type 0
  RunsTexts how filters sources before after status =
      ((script : List ℕ) × (mid : Streams) × JoinsThem opens sources script before mid
      × GuidesScript creates leaves how filters (Some script) mid after status)
      ⊎ ((source : Source) × (why : Unread) × StopsAtSource opens sources source why before.reads after.reads
      × TellsUnread source why before.tells after.tells × (after.holds ≡ before.holds) × (status ≡ 1))

  -- A fault ended it.
  unfoldable pub StopsTexts : StreamFault → RunOptions → List NamedFilter → List Source → Streams → Streams → Type 0
  StopsTexts fault how filters sources before after =
      ((script : List ℕ) × (mid : Streams) × JoinsThem opens sources script before mid
      × StopsGuided creates leaves fault how filters (Some script) mid after)
      ⊎ ((source : Source) × (why : Unread) × StopsAtSource opens sources source why before.reads after.reads
      × StopsTelling fault source why before.tells after.tells × (after.holds ≡ before.holds))

  -- The script of standard input alone was carried out line by line, and that of other sources when they were read.
  abbrev pub RunsNamed : RunOptions → List NamedFilter → List Source → Streams → Streams → ℕ → Type 0
  RunsNamed how filters sources before after status =
      MatchBool (is_input_alone sources) (GuidesScript creates leaves how filters None before after status)
      (RunsTexts how filters sources before after status)

  -- A fault ended it.
  abbrev pub StopsNamed : StreamFault → RunOptions → List NamedFilter → List Source → Streams → Streams → Type 0
  StopsNamed fault how filters sources before after =
      MatchBool (is_input_alone sources) (StopsGuided creates leaves fault how filters None before after)
      (StopsTexts fault how filters sources before after)

  -- The filters were read, in order, and then the script was carried out; or one of them was not read, and no line was answered.
  abbrev pub RunsGuided : RunOptions → List Source → Streams → Streams → ℕ → Type 0
  RunsGuided how sources before after status =
      ((filters : List NamedFilter) × (mid : Streams) × ReadsThem opens how.filters.items filters before mid
      × RunsNamed how filters sources mid after status)
      ⊎ (SkipsFilter opens how.filters.items before after × (status ≡ 1))

  -- A fault ended it.
  abbrev pub StopsRun : StreamFault → RunOptions → List Source → Streams → Streams → Type 0
  StopsRun fault how sources before after = StopsAtFault opens fault how.filters.items before after
      ⊎ ((filters : List NamedFilter) × (mid : Streams) × ReadsThem opens how.filters.items filters before mid
      × StopsNamed fault how filters sources mid after)
