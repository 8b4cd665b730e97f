-- What the program does with routes that are taken through the filter of a file. (This project's own choice.)
use Rattle.std.specs.Prelude.{◌≡◌, ◌⊎◌, ℕ, Bool, List, Option, IfSome, Result}
use Rattle.std.specs.declared.io.Error.{Error}
use Rattle.filter_syntax.specs.SyntaxText.{FilterView}
use Rattle.filter_reports.specs.Notices.{Named, words_if}
use Rattle.filter_reports.specs.Opening.{IsFilterRefusal}
use Rattle.filter_reports.specs.Reports.{ReportView, status_of}
use Rattle.filter_reports.specs.VerifiedFilters.{IsFilterOf}
use Rattle.filter_source.specs.Limits.{source_limit}
use Rattle.filter_traces.specs.Coverage.{Covers, CoversOff}
use Rattle.filter_traces.specs.Whys.{Whys, WhysOff}
use Rattle.line_protocol.specs.declared.faults.StreamFault.{StreamFault}
use Rattle.line_protocol.specs.declared.faults.StreamFault.TheVariants.{Memory}
use Rattle.command_line.specs.declared.requests.RouteReport.{RouteReport}
use Rattle.command_line.specs.declared.requests.RouteReport.TheVariants.{Verdicts, Reasons, Coverage}
use Rattle.command_line.specs.declared.requests.Trying.{Trying}
use Rattle.program_console.specs.Commands.{text_of}
use Rattle.program_console.specs.Putting.{CutsReport, TakesReport}
use Rattle.program_console.specs.Reading.{Reads, SkipsUnread, StopsReading}
use Rattle.program_console.specs.Streaming.{Streams}
use Rattle.program_words.specs.declared.source.Source.{Source}
use Rattle.route_answers.specs.Filtering.{AnswersEach, AnswersFirst, filter_answer}
use Rattle.route_answers.specs.WatchedRoutes.{IsQuiet}

-- The verdict of the filter of a text on each route of the input was written, with words about lines that are refused where these are wanted.
pub record JudgesRoutes (tells_routes : Bool) (size : ℕ) (text : List ℕ) (before after : Streams) (refused : ℕ) : Type 0 where
  pub filter : FilterView
  pub is_filter : IsFilterOf text size filter
  pub answered : IfSome before.reads (λ input. AnswersEach (filter_answer filter size) input after.reads before.holds after.holds refused)
  pub quiet : IsQuiet tells_routes before.tells after.tells

-- A fault broke that off.
pub record StopsJudging (fault : StreamFault) (tells_routes : Bool) (size : ℕ) (text : List ℕ) (before after : Streams) : Type 0 where
  pub filter : FilterView
  pub is_filter : IsFilterOf text size filter
  pub answered : IfSome before.reads (λ input. AnswersFirst (filter_answer filter size) fault input after.reads before.holds after.holds)
  pub quiet : IsQuiet tells_routes before.tells after.tells

-- It was written why each got its verdict.
pub record ExplainsRoutes (size : ℕ) (text : List ℕ) (before after : Streams) (refused : ℕ) : Type 0 where
  pub answered : IfSome before.reads (λ input. Whys size text input after.reads before.holds after.holds refused)
  pub tells : after.tells ≡ before.tells

pub record StopsExplaining (fault : StreamFault) (size : ℕ) (text : List ℕ) (before after : Streams) : Type 0 where
  pub answered : IfSome before.reads (λ input. WhysOff fault size text input after.reads before.holds after.holds)
  pub tells : after.tells ≡ before.tells

-- It was written how many came to each command.
pub record CountsRoutes (size : ℕ) (text : List ℕ) (before after : Streams) (refused : ℕ) : Type 0 where
  pub answered : IfSome before.reads (λ input. Covers size text input after.reads before.holds after.holds refused)
  pub tells : after.tells ≡ before.tells

pub record StopsCounting (fault : StreamFault) (size : ℕ) (text : List ℕ) (before after : Streams) : Type 0 where
  pub answered : IfSome before.reads (λ input. CoversOff fault size text input after.reads before.holds after.holds)
  pub tells : after.tells ≡ before.tells

-- What is asked for of the routes was written.
abbrev pub AnswersRoutes : RouteReport → Bool → ℕ → List ℕ → Streams → Streams → ℕ → Type 0
AnswersRoutes Verdicts tells_routes size text before after refused = JudgesRoutes tells_routes size text before after refused
AnswersRoutes Reasons tells_routes size text before after refused = ExplainsRoutes size text before after refused
AnswersRoutes Coverage tells_routes size text before after refused = CountsRoutes size text before after refused

-- A fault ended that.
abbrev pub StopsAnswers : RouteReport → StreamFault → Bool → ℕ → List ℕ → Streams → Streams → Type 0
StopsAnswers Verdicts fault tells_routes size text before after = StopsJudging fault tells_routes size text before after
StopsAnswers Reasons fault tells_routes size text before after = StopsExplaining fault size text before after
StopsAnswers Coverage fault tells_routes size text before after = StopsCounting fault size text before after

-- The filter of a text answered the routes; or it is refused, and no line was read.
abbrev pub TriesText : Trying → Named → Streams → Streams → ℕ → Type 0
TriesText how filter before after status =
    ((refused : ℕ) × AnswersRoutes how.report how.tells_routes how.size filter.text before after refused × (status ≡ status_of refused))
    ⊎ ((report : ReportView) × IsFilterRefusal how.size (words_if how.is_explained) filter report × TakesReport report before after
    × (status ≡ report.status))

-- A fault ended that: memory was refused before, the answers broke off, or the report that refuses the filter was cut.
abbrev pub StopsTrying : StreamFault → Trying → Named → Streams → Streams → Type 0
StopsTrying fault how filter before after = ((fault ≡ Memory) × (after ≡ before))
    ⊎ (StopsAnswers how.report fault how.tells_routes how.size filter.text before after
    ⊎ ((report : ReportView) × IsFilterRefusal how.size (words_if how.is_explained) filter report × CutsReport fault report before after))

-- `opens name` says what may come of opening a file of this name.
module _ (opens : List ℕ → Result (Option (List ℕ)) Error → Type 0) where
  -- A filter was read, which leaves this of the input, and tried on its routes; or it was not read.
  abbrev pub TriesFilter : Trying → Source → Streams → Streams → ℕ → Type 0
  TriesFilter how source before after status =
      ((text : List ℕ) × (mid : Streams) × Reads opens source_limit source text before mid × TriesText how (text_of source text) mid after status)
      ⊎ (SkipsUnread opens source_limit source before after × (status ≡ 3))

  -- A fault ended it.
  abbrev pub StopsFilter : StreamFault → Trying → Source → Streams → Streams → Type 0
  StopsFilter fault how source before after = StopsReading opens fault source_limit source before after
      ⊎ ((text : List ℕ) × (mid : Streams) × Reads opens source_limit source text before mid
      × StopsTrying fault how (text_of source text) mid after)
