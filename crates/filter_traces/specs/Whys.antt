-- Why routes got their verdicts: for each route a line with what the filter's text means for it and where that was decided, and below it
-- what is told of the run. (This project's own choice.)
use Rattle.std.specs.Prelude.{◌≡◌, ◌⊎◌, ℕ, List, [], ◌∷◌, ◌++◌, map, Option, Some, Result, Ok, Err, codes, decimal, slice_get}
use Rattle.prefix_patterns.specs.Spelling.{prefix_text}
use Rattle.filter_code.specs.Machine.{outcome_of}
use Rattle.filter_code.specs.RouteView.{RouteView}
use Rattle.filter_code.specs.declared.outcome.Outcome.{Outcome}
use Rattle.filter_code.specs.declared.outcome.Outcome.TheVariants as outcome
use Rattle.filter_compiler.specs.Verdicts.{Verdict, accepted, rejected, divided, meaning}
use Rattle.filter_syntax.specs.SyntaxText.{FilterView}
use Rattle.filter_source.specs.Sources.{Translates}
use Rattle.filter_source.specs.TextPlaces.{ArePlacesOf}
use Rattle.filter_verifier.specs.Safe.{IsSafe}
use Rattle.line_protocol.specs.Answers.{Answer, refusal}
use Rattle.line_protocol.specs.declared.answers.LineReply.TheVariants as reply
use Rattle.line_protocol.specs.declared.faults.StreamFault.{StreamFault}
use Rattle.line_protocol.specs.declared.faults.StreamFault.TheVariants.{Memory}
use Rattle.route_answers.specs.Eval.{Line}
use Rattle.route_answers.specs.RouteLine.{line_code, route_in}
use Rattle.route_answers.specs.declared.line_fault.LineFault.{LineFault}
use Rattle.route_answers.specs.Filtering.{AnswersEach, AnswersFirst}
use Rattle.refusal_words.specs.Places.{column_at, line_at}
use Rattle.filter_traces.specs.Sites.{site_text}
use Rattle.filter_traces.specs.Steps.{all_lines, deciding_place}
use Rattle.filter_traces.specs.TracedView.{TracedView}
use Rattle.filter_traces.specs.declared.site.InstructionSite.{InstructionSite}

-- the site of a byte of a text
abbrev pub site_in : List ℕ → ℕ → InstructionSite
site_in text byte = record { byte = byte; line = line_at text byte; column = column_at text byte }

-- A text spells this filter. Its code never goes wrong in domains of this size, and this is where in the text each instruction of it
-- comes from.
pub record IsTraceOf (source : List ℕ) (nodes : ℕ) (filter : FilterView) (t : TracedView) : Type 0 where
  pub translates : Translates source filter t.program
  pub safe : IsSafe t.program nodes
  pub for_size : t.size ≡ nodes
  pub of_text : t.text ≡ source
  pub places : List ℕ
  pub come_from : ArePlacesOf source places
  pub sites_are : t.sites ≡ map (site_in source) places

-- a route
abbrev pub route_text : RouteView → List ℕ
route_text route = prefix_text route.net ++ 32 ∷ [] ++ decimal route.metric

-- a verdict in words; a filter that divides by zero rejects
abbrev pub verdict_words : Verdict → List ℕ
verdict_words (accepted metric) = codes "accept " ++ decimal metric
verdict_words rejected = codes "reject"
verdict_words divided = codes "reject"

-- the same of an outcome
abbrev pub outcome_words : Outcome → List ℕ
outcome_words (outcome.Accept metric) = codes "accept " ++ decimal metric
outcome_words outcome.Reject = codes "reject"
outcome_words (outcome.Fault kind at) = codes "reject"

-- the line on a route, whose verdict has these words
abbrev pub route_line : TracedView → RouteView → List ℕ → List ℕ
route_line t route words =
    route_text route ++ 32 ∷ [] ++ words ++ 32 ∷ [] ++ site_text (slice_get t.sites (deciding_place t.program route)) ++ 10 ∷ []

-- that line, and what is told of the run
abbrev pub why_text : TracedView → RouteView → List ℕ → List ℕ
why_text t route words = route_line t route words ++ all_lines t route

-- the answer to a line that was read so: why the filter says what it says of the route, or why there is none
abbrev pub why_meant : FilterView → TracedView → ℕ → Result RouteView LineFault → Answer
why_meant filter t number (Ok route) = record { text = why_text t route (verdict_words (meaning filter route)); reply = reply.Answered }
why_meant filter t number (Err found) = record { text = refusal (line_code found) number; reply = reply.Refused }

-- the answer to a line
abbrev pub why_answer : FilterView → TracedView → Line → Answer
why_answer filter t line = why_meant filter t line.0 (route_in (Some t.size) line.1)

-- the same by the code of the filter
abbrev pub why_run : TracedView → ℕ → Result RouteView LineFault → Answer
why_run t number (Ok route) = record { text = why_text t route (outcome_words (outcome_of t.program route)); reply = reply.Answered }
why_run t number (Err found) = record { text = refusal (line_code found) number; reply = reply.Refused }

abbrev pub code_why : TracedView → Line → Answer
code_why t line = why_run t line.0 (route_in (Some t.size) line.1)

-- Nothing was read or written for want of memory.
abbrev pub LacksMemory : StreamFault → List ℕ → Option (List ℕ) → Option (List ℕ) → Option (List ℕ) → Type 0
LacksMemory fault input left held holds = (fault ≡ Memory) × (left ≡ Some input) × (holds ≡ held)

-- A run was answered to its end: it is told of each line what the text means for its route, and why.
abbrev pub Whys : ℕ → List ℕ → List ℕ → Option (List ℕ) → Option (List ℕ) → Option (List ℕ) → ℕ → Type 0
Whys size text input left held holds refused =
    (filter : FilterView) × (t : TracedView) × IsTraceOf text size filter t × AnswersEach (why_answer filter t) input left held holds refused

-- A fault ended it: nothing was read or written for want of memory, or the first lines were answered.
abbrev pub WhysOff : StreamFault → ℕ → List ℕ → List ℕ → Option (List ℕ) → Option (List ℕ) → Option (List ℕ) → Type 0
WhysOff fault size text input left held holds = LacksMemory fault input left held holds
    ⊎ ((filter : FilterView) × (t : TracedView) × IsTraceOf text size filter t × AnswersFirst (why_answer filter t) fault input left held holds)
