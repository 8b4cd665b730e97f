-- What is told of a run by verified code is what its filter means.
use Rattle.std.proofs.Common.{◌≡◌, ℕ, List, Some, Result, Ok, Err, refl, sym, ap}
use Rattle.filter_code.specs.Machine.{outcome_of}
use Rattle.filter_code.specs.RouteView.{RouteView}
use Rattle.filter_code.specs.declared.outcome.Outcome.{Outcome}
use Rattle.filter_code.specs.declared.outcome.Outcome.TheVariants as outcome
use Rattle.filter_compiler.specs.Same.{MeansTheSame}
use Rattle.filter_compiler.specs.Verdicts.{Verdict, meaning}
use Rattle.filter_syntax.specs.SyntaxText.{FilterView}
use Rattle.filter_verifier.specs.Safe.{IsSafe}
use Rattle.line_protocol.specs.Answers.{Answer}
use Rattle.line_protocol.specs.declared.answers.LineReply.TheVariants as reply
use Rattle.filter_reports.proofs.Saying.{says_the_same}
use Rattle.route_answers.specs.Eval.{Line}
use Rattle.filter_reports.specs.Saying.{Says, SaysTheSame}
use Rattle.route_answers.specs.declared.line_fault.LineFault.{LineFault}
use Rattle.route_answers.proofs.Meant.{read_of_size}
use Rattle.route_answers.specs.RouteLine.{route_in}
use Rattle.filter_traces.specs.TracedView.{TracedView}
use Rattle.filter_traces.specs.Whys.{code_why, outcome_words, verdict_words, why_answer, why_meant, why_run, why_text}

-- the words of an outcome that says what a verdict says
said_words : (v : Verdict) (end : Outcome) → Says v end → outcome_words end ≡ verdict_words v
said_words v (outcome.Accept metric) h = sym (ap verdict_words h)
said_words v outcome.Reject h = sym (ap verdict_words h)
said_words v (outcome.Fault why at) h = absurd h

by_route : (filter : FilterView) (t : TracedView) (line : Line) → SaysTheSame filter t.program t.size
    → (r : Result RouteView LineFault) → route_in (Some t.size) line.1 ≡ r → why_run t line.0 r ≡ why_meant filter t line.0 r
by_route filter t line same (Err found) e = refl
by_route filter t line same (Ok route) e =
    ap (λ (words : List ℕ). let a : Answer = record { text = why_text t route words; reply = reply.Answered } in a)
    (said_words (meaning filter route) (outcome_of t.program route) (same.says route (read_of_size t.size line.1 route e)))

-- the answer to a line says what the filter means
pub why_as_meant : (filter : FilterView) (t : TracedView) → MeansTheSame filter t.program → IsSafe t.program t.size
    → (line : Line) → code_why t line ≡ why_answer filter t line
why_as_meant filter t means safe line =
    by_route filter t line (says_the_same filter t.program t.size means safe) (route_in (Some t.size) line.1) refl
