-- What `filter` answers to route lines: what the filter's text means for each route. (This project's own choice.)
use Rattle.std.specs.Prelude.{◌≡◌, ◌+◌, ◌≤◌, ℕ, List, [], ◌∷◌, ◌++◌, length, map, take, Option, Some, Result, Ok, Err, codes, decimal, ⊤}
use Rattle.std.specs.Io.KnownBytes.{Appends, Consumes}
use Rattle.filter_code.specs.CodeView.{CodeView}
use Rattle.filter_code.specs.RouteView.{RouteView}
use Rattle.filter_compiler.specs.Verdicts.{Verdict, accepted, rejected, divided, meaning}
use Rattle.filter_syntax.specs.SyntaxText.{FilterView}
use Rattle.line_protocol.specs.Answers.{Answer, refusal, refusals, text_of}
use Rattle.line_protocol.specs.Lines.{numbered, whole_lines}
use Rattle.line_protocol.specs.Runs.{IsWritten}
use Rattle.line_protocol.specs.declared.answers.LineReply.TheVariants as reply
use Rattle.line_protocol.specs.declared.faults.StreamFault.{StreamFault}
use Rattle.line_protocol.specs.declared.faults.StreamFault.TheVariants.{Read, Write, Memory, TooLong}
use Rattle.route_answers.specs.Eval.{Line, answer_of}
use Rattle.route_answers.specs.RouteLine.{line_code, route_in}
use Rattle.route_answers.specs.declared.line_fault.LineFault.{LineFault}

-- the line of a verdict; a filter that divides by zero rejects
abbrev pub verdict_line : Verdict → List ℕ
verdict_line (accepted metric) = codes "accept " ++ decimal metric ++ 10 ∷ []
verdict_line rejected = codes "reject" ++ 10 ∷ []
verdict_line divided = codes "reject" ++ 10 ∷ []

-- the answer to a line that was read so: what the filter says of the route, or why there is none
abbrev pub answer_meant : FilterView → ℕ → Result RouteView LineFault → Answer
answer_meant filter number (Ok route) = record { text = verdict_line (meaning filter route); reply = reply.Answered }
answer_meant filter number (Err found) = record { text = refusal (line_code found) number; reply = reply.Refused }

-- the answer to a line, in domains of a size
abbrev pub filter_answer : FilterView → ℕ → Line → Answer
filter_answer filter size line = answer_meant filter line.0 (route_in (Some size) line.1)

-- the same by the code of a filter
abbrev pub code_answer : CodeView → ℕ → Line → Answer
code_answer program size line = answer_of program line.0 (route_in (Some size) line.1)

-- the most bytes of routes that a run answers
abbrev pub routes_limit : ℕ
routes_limit = 4000000000

-- Each line of an input was answered so. `left` is what the reader has now; `held` and `holds` are what the writer held before
-- and holds now; `refused` is the number of refused lines.
pub record AnswersEach (answer_to : Line → Answer) (input : List ℕ) (left held holds : Option (List ℕ)) (refused : ℕ) : Type 0 where
  pub written : Appends held holds (text_of (map answer_to (numbered input)))
  pub counted : refused ≡ refusals (map answer_to (numbered input))
  pub to_end : left ≡ Some []
  pub within : length input ≤ routes_limit

-- how far the answers reach where a fault ended the run, when `read` was read of the input
abbrev pub ReachesTo : (Line → Answer) → StreamFault → List ℕ → List Answer → Type 0
ReachesTo answer_to Read read given = given ≡ map answer_to (numbered (whole_lines read))
ReachesTo answer_to Write read given = ⊤
ReachesTo answer_to Memory read given = ⊤
ReachesTo answer_to TooLong read given = (length read ≡ routes_limit + 1)
    × (given ≡ map answer_to (numbered (whole_lines (take routes_limit read))))

-- A fault ended the run: the first of the lines were answered so, each whole, but for a writer that failed.
pub record AnswersFirst (answer_to : Line → Answer) (fault : StreamFault) (input : List ℕ) (left held holds : Option (List ℕ)) : Type 0 where
  pub given : List Answer
  pub others : List Answer
  pub first : map answer_to (numbered input) ≡ given ++ others
  pub written : IsWritten fault held holds (text_of given)
  pub read : List ℕ
  pub consumed : Consumes (Some input) left read
  pub reach : ReachesTo answer_to fault read given
