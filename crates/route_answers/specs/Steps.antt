-- What is between a line and its answer. (This project's own choice.)
use Rattle.std.specs.Prelude.{◌≡◌, ℕ, List, [], Option, Some, None, Result, Ok, Err}
use Rattle.filter_code.specs.CodeView.{CodeView}
use Rattle.filter_source.specs.declared.refusal.Refusal.{Refusal}
use Rattle.line_protocol.specs.Answers.{Answer}
use Rattle.line_protocol.specs.declared.answers.LineReply.TheVariants as reply
use Rattle.route_answers.specs.Eval.{code_answer, code_in, route_answer}

-- The line of the code gets no answer where it is good, and its code is kept. A refusal ends the run.
abbrev pub TakesCode : ℕ → Result CodeView Refusal → Answer → Option CodeView → Type 0
TakesCode number (Ok program) answer after = (answer ≡ record { text = []; reply = reply.Answered }) × (after ≡ Some program)
TakesCode number (Err found) answer after = (answer ≡ code_answer number found) × (after ≡ None)

-- how a line is answered, before and after the code has come
abbrev pub AnswersLine : Option CodeView → ℕ → List ℕ → Answer → Option CodeView → Type 0
AnswersLine None number given answer after = TakesCode number (code_in given) answer after
AnswersLine (Some program) number given answer after = (answer ≡ route_answer program (number, given)) × (after ≡ Some program)
