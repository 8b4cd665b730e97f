-- What the program does for the script of a domain, and its exit status. (This project's own choice.)
use Rattle.std.specs.Prelude.{◌≡◌, ◌⊎◌, ℕ, Bool, true, List, Option, None, Some, IfSome, Result}
use Rattle.std.specs.declared.io.Error.{Error}
use Rattle.line_protocol.specs.declared.faults.StreamFault.{StreamFault}
use Rattle.domain_cmds.specs.Running.{IsBrokenOff, IsCarriedOut}
use Rattle.program_words.specs.declared.source.Source.{Source}
use Rattle.program_words.specs.declared.source.Source.TheVariants.{Input, File}
use Rattle.filter_reports.specs.Reports.{status_of}
use Rattle.ncroute.specs.DomainLoading.{CutsScript, ReadsScript, SkipsScript}
use Rattle.program_console.specs.Streaming.{Streams}
use Rattle.ncroute.specs.declared.script.Lines.{Lines}
use Rattle.ncroute.specs.declared.script.Lines.TheVariants as lines

-- the text that lines come from, where it is not standard input that has them
abbrev pub text_of : Lines → Option (List ℕ)
text_of lines.Input = None
text_of (lines.Text text) = Some text.now

-- `Answered input left` says how the lines of all that there was to read were answered, of which `left` is left. They are those that standard
-- input had, or those of a text, and then nothing was read of standard input. `known` is what that had before, `remains` what it has now.
abbrev pub TakesLines : Option (List ℕ) → (List ℕ → Option (List ℕ) → Type 0) → Option (List ℕ) → Option (List ℕ) → Type 0
TakesLines None Answered known remains = IfSome known (λ input. Answered input remains)
TakesLines (Some text) Answered known remains = ((left : Option (List ℕ)) × Answered text left) × (remains ≡ known)

-- Standard error is told nothing, but where people asked for words: what is told of the filters that are refused is left open.
abbrev pub IsQuiet : Bool → Option (List ℕ) → Option (List ℕ) → Type 0
IsQuiet is_explained stderr_before stderr_after = (is_explained ≡ true) ⊎ (stderr_after ≡ stderr_before)

-- A script was carried out, and the exit status says whether a line was refused. Its lines are those of this text, or else of standard input.
pub record RunsScript (is_explained : Bool) (text : Option (List ℕ)) (before after : Streams) (status : ℕ) : Type 0 where
  pub refused : ℕ
  pub carried_out : TakesLines text (λ input left. IsCarriedOut input left before.holds after.holds refused) before.reads after.reads
  pub quiet : IsQuiet is_explained before.tells after.tells
  pub ends : status ≡ status_of refused

-- A fault broke it off.
pub record StopsScript (fault : StreamFault) (is_explained : Bool) (text : Option (List ℕ)) (before after : Streams) : Type 0 where
  pub left_off : TakesLines text (λ input left. IsBrokenOff fault input left before.holds after.holds) before.reads after.reads
  pub quiet : IsQuiet is_explained before.tells after.tells

-- `opens name` says what may come of opening a file of this name.
module _ (opens : List ℕ → Result (Option (List ℕ)) Error → Type 0) where
  -- The script of a file was read to its end, or to the limit, with the filters that it includes in their places, and carried out; or it was not read.
  abbrev pub RunsFile : Source → Bool → Streams → Streams → ℕ → Type 0
  RunsFile source is_explained before after status =
      ((script : List ℕ) × (mid : Streams) × ReadsScript opens source script before mid
      × RunsScript is_explained (Some script) mid after status)
      ⊎ (SkipsScript opens source before after × (status ≡ 3))

  -- A fault ended it.
  abbrev pub StopsFile : StreamFault → Source → Bool → Streams → Streams → Type 0
  StopsFile fault source is_explained before after = CutsScript opens fault source before after
      ⊎ ((script : List ℕ) × (mid : Streams) × ReadsScript opens source script before mid
      × StopsScript fault is_explained (Some script) mid after)

  -- A script was carried out: line by line as standard input has it, or from a file.
  abbrev pub RunsSource : Source → Bool → Streams → Streams → ℕ → Type 0
  RunsSource Input is_explained before after status = RunsScript is_explained None before after status
  RunsSource (File name) is_explained before after status = RunsFile (File name) is_explained before after status

  -- A fault ended it.
  abbrev pub StopsSource : StreamFault → Source → Bool → Streams → Streams → Type 0
  StopsSource fault Input is_explained before after = StopsScript fault is_explained None before after
  StopsSource fault (File name) is_explained before after = StopsFile fault (File name) is_explained before after
