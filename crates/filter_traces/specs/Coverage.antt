-- How many of some routes come to each command of a filter. (This project's own choice.)
use Rattle.std.specs.Prelude.{◌≡◌, ◌<◌, ◌⊎◌, ◌-◌, ◌^◌, ℕ, Bool, false, min, count_by, List}
use Rattle.std.specs.Prelude.{[], length, Option, Some, None, Result, Ok, Err, slice_index}
use Rattle.std.specs.Io.KnownBytes.{Appends}
use Rattle.filter_code.specs.CodeView.{CodeView}
use Rattle.filter_code.specs.RouteView.{RouteView}
use Rattle.filter_syntax.specs.SyntaxText.{FilterView}
use Rattle.line_protocol.specs.Answers.{Answer, refusal}
use Rattle.line_protocol.specs.Lines.{numbered}
use Rattle.line_protocol.specs.declared.answers.LineReply.TheVariants as reply
use Rattle.line_protocol.specs.declared.faults.StreamFault.{StreamFault}
use Rattle.route_answers.specs.Eval.{Line}
use Rattle.filter_reports.specs.Cuts.{IsCut}
use Rattle.route_answers.specs.RouteLine.{line_code, route_in}
use Rattle.route_answers.specs.declared.line_fault.LineFault.{LineFault}
use Rattle.route_answers.specs.Filtering.{AnswersEach, AnswersFirst}
use Rattle.filter_traces.specs.Commands.{coverage_text}
use Rattle.filter_traces.specs.Hits.{comes_to, counted_up}
use Rattle.filter_traces.specs.TracedView.{TracedView}
use Rattle.filter_traces.specs.Whys.{IsTraceOf, LacksMemory}
use Rattle.filter_traces.specs.declared.coverage.Counter.{Counter}

-- whether a line that was read so is a route whose run comes to the instruction at a place
abbrev pub read_comes_to : CodeView → ℕ → Result RouteView LineFault → Bool
read_comes_to program place (Ok route) = comes_to program route place
read_comes_to program place (Err found) = false

abbrev pub line_comes_to : TracedView → ℕ → Line → Bool
line_comes_to t place line = read_comes_to t.program place (route_in (Some t.size) line.1)

-- how many of some lines are such routes
abbrev pub hits : TracedView → List Line → ℕ → ℕ
hits t lines place = count_by (line_comes_to t place) lines

-- the answer to a line that was read so: nothing, or why it gives no route
abbrev pub cover_read : ℕ → Result RouteView LineFault → Answer
cover_read number (Ok route) = record { text = []; reply = reply.Answered }
cover_read number (Err found) = record { text = refusal (line_code found) number; reply = reply.Refused }

-- why a line that was read so gives no route
abbrev pub fault_in : Result RouteView LineFault → Option LineFault
fault_in (Ok route) = None
fault_in (Err found) = Some found

-- the answer to a line, in domains of a size
abbrev pub cover_answer : ℕ → Line → Answer
cover_answer size line = cover_read line.0 (route_in (Some size) line.1)

-- A line is counted at each place to which its route comes.
pub record IsCounted (before after : Counter) (line : Line) : Type 0 where
  pub same : after.traced ≡ before.traced
  pub room : length after.counts.items ≡ length before.counts.items
  pub each : (k : ℕ) → k < length before.counts.items
      → slice_index after.counts.items k ≡ counted_up (line_comes_to before.traced k line) (slice_index before.counts.items k)

-- These lines are counted at each place of a filter's code.
pub record HasCounted (t : TracedView) (lines : List Line) (s : Counter) : Type 0 where
  pub same : s.traced ≡ t
  pub room : length s.counts.items ≡ length t.program.instrs
  pub each : (k : ℕ) → k < length t.program.instrs → slice_index s.counts.items k ≡ min (hits t lines k) (2 ^ 64 - 1)

-- Each line of an input was counted, and then the commands were written, each with the number of the routes that came to it. The lines
-- that give no route were refused before that: `mid` is what the writer held then.
pub record CoversEach (t : TracedView) (input : List ℕ) (left held holds : Option (List ℕ)) (refused : ℕ) : Type 0 where
  pub mid : Option (List ℕ)
  pub answered : AnswersEach (cover_answer t.size) input left held mid refused
  pub written : Appends mid holds (coverage_text t (hits t (numbered input)))

-- A run was answered to its end: the commands of the text are told, each with the number of the routes that came to it.
abbrev pub Covers : ℕ → List ℕ → List ℕ → Option (List ℕ) → Option (List ℕ) → Option (List ℕ) → ℕ → Type 0
Covers size text input left held holds refused =
    (filter : FilterView) × (t : TracedView) × IsTraceOf text size filter t × CoversEach t input left held holds refused

-- A fault cut what is told of the commands, when each line had been counted.
pub record CoversCut (t : TracedView) (fault : StreamFault) (input : List ℕ) (left held holds : Option (List ℕ)) : Type 0 where
  pub mid : Option (List ℕ)
  pub refused : ℕ
  pub answered : AnswersEach (cover_answer t.size) input left held mid refused
  pub cut : IsCut fault mid holds (coverage_text t (hits t (numbered input)))

-- A fault ended it: nothing was read or written for want of memory, only the first lines were read, or the commands were cut.
abbrev pub CoversFirst : TracedView → StreamFault → List ℕ → Option (List ℕ) → Option (List ℕ) → Option (List ℕ) → Type 0
CoversFirst t fault input left held holds = LacksMemory fault input left held holds
    ⊎ (AnswersFirst (cover_answer t.size) fault input left held holds ⊎ CoversCut t fault input left held holds)

abbrev pub CoversOff : StreamFault → ℕ → List ℕ → List ℕ → Option (List ℕ) → Option (List ℕ) → Option (List ℕ) → Type 0
CoversOff fault size text input left held holds = LacksMemory fault input left held holds
    ⊎ ((filter : FilterView) × (t : TracedView) × IsTraceOf text size filter t × CoversFirst t fault input left held holds)
