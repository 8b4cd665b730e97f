-- What `eval` writes for an input: the whole output from the whole input (this project's own choice).
use Rattle.std.specs.Prelude.{ℕ, List, [], ◌∷◌, ◌++◌, length, map, None, Result, Ok, Err, nat_lt, if◌then◌else◌, codes, decimal}
use Rattle.filter_code.specs.RouteView.{RouteView}
use Rattle.filter_code.specs.Machine.{outcome_of}
use Rattle.filter_code.specs.Outcomes.{fault_code}
use Rattle.filter_code.specs.CodeView.{CodeView}
use Rattle.filter_code.specs.declared.outcome.Outcome.{Outcome}
use Rattle.filter_code.specs.declared.outcome.Outcome.TheVariants as outcome
use Rattle.line_protocol.specs.Answers.{Answer, refusal, refusals, text_of}
use Rattle.line_protocol.specs.Lines.{numbered}
use Rattle.line_protocol.specs.Words.{trimmed}
use Rattle.line_protocol.specs.declared.answers.LineReply.TheVariants as reply
use Rattle.filter_source.specs.Limits.{source_limit}
use Rattle.filter_source.specs.Refusals.{place_in_line, refusal_code}
use Rattle.filter_source.specs.Sources.{code_in_hexadecimal}
use Rattle.filter_source.specs.declared.refusal.Refusal.{Refusal}
use Rattle.filter_source.specs.declared.refusal.Refusal.TheVariants.{TooLong}
use Rattle.route_answers.specs.RouteLine.{line_code, route_in}
use Rattle.route_answers.specs.declared.line_fault.LineFault.{LineFault}
use Rattle.route_answers.specs.declared.line_fault.LineFault.TheVariants as line

-- a line that is answered, beside its number
abbrev pub Line : Type 0
Line = ℕ × List ℕ

-- a verdict as it is printed
abbrev pub verdict : Outcome → List ℕ
verdict (outcome.Accept metric) = codes "accept " ++ decimal metric ++ 10 ∷ []
verdict outcome.Reject = codes "reject" ++ 10 ∷ []
verdict (outcome.Fault kind at) = codes "fault " ++ fault_code kind ++ 32 ∷ decimal at ++ 10 ∷ []

-- the answer to a route line that was read so
abbrev pub answer_of : CodeView → ℕ → Result RouteView LineFault → Answer
answer_of program number (Ok route) = record { text = verdict (outcome_of program route); reply = reply.Answered }
answer_of program number (Err found) = record { text = refusal (line_code found) number; reply = reply.Refused }

-- the answer to the line of a route, under a filter's code
abbrev pub route_answer : CodeView → Line → Answer
route_answer program given = answer_of program given.0 (route_in None given.1)

-- the code that a line gives: a code file in hexadecimal, without the blanks at either end
abbrev pub code_in : List ℕ → Result CodeView Refusal
code_in given = if nat_lt source_limit (length given) then Err TooLong else code_in_hexadecimal (trimmed given)

-- the answer to a refused code line, which ends the run
abbrev pub code_answer : ℕ → Refusal → Answer
code_answer number why = record { text = refusal (refusal_code why) (place_in_line why number); reply = reply.Ended }

-- the answers after the line of the code: each route's, or the refusal that ends the run
abbrev pub answers_after : ℕ → Result CodeView Refusal → List Line → List Answer
answers_after number (Ok program) routes = map (route_answer program) routes
answers_after number (Err why) routes = code_answer number why ∷ []

-- the answers to lines, the first of which has the code
abbrev pub line_answers : List Line → List Answer
line_answers [] = []
line_answers (first ∷ routes) = answers_after first.0 (code_in first.1) routes

-- the answer to an input in which no line has a code
abbrev pub no_code : Answer
no_code = record { text = refusal (line_code line.Words) 0; reply = reply.Refused }

-- the answers to all lines of an input
abbrev pub all_answers : List Line → List Answer
all_answers [] = no_code ∷ []
all_answers (first ∷ routes) = line_answers (first ∷ routes)

abbrev pub eval_answers : List ℕ → List Answer
eval_answers input = all_answers (numbered input)

-- what `eval` writes for an input
abbrev pub eval_out : List ℕ → List ℕ
eval_out input = text_of (eval_answers input)

-- how many of the lines that it writes are refusals
abbrev pub eval_refusals : List ℕ → ℕ
eval_refusals input = refusals (eval_answers input)
