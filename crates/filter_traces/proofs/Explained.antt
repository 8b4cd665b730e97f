-- How the service that says why answers the lines of a run.
use Rattle.std.proofs.Common.{◌≡◌, ℕ, List, [], ◌∷◌, ◌++◌, Option, Some, Result, Ok, Err, false, refl, ap, ◌∙◌}
use Rattle.std.specs.Prelude.{⊤}
use Rattle.filter_code.specs.RouteView.{RouteView}
use Rattle.line_protocol.specs.Answers.{Answer, is_end}
use Rattle.line_protocol.specs.Runs.{Finishes, Stops}
use Rattle.line_protocol.specs.declared.faults.StreamFault.{StreamFault}
use Rattle.route_answers.specs.Eval.{Line}
use Rattle.route_answers.specs.declared.line_fault.LineFault.{LineFault}
use Rattle.route_answers.specs.Filtering.{AnswersEach, AnswersFirst, routes_limit}
use Rattle.route_answers.specs.RouteLine.{route_in}
use Rattle.route_answers.proofs.Answered as answered
use Rattle.filter_traces.specs.TracedView.{TracedView}
use Rattle.filter_traces.specs.Whys.{code_why, why_run}
use Rattle.filter_traces.specs.declared.why.Explainer.{Explainer}

-- how the service answers a line
abbrev pub answers : Explainer → ℕ → List ℕ → Answer → Explainer → Type 0
answers before number line answer after = (after.traced ≡ before.traced) × (answer ≡ code_why before.traced (number, line))

-- it keeps the filter
Keeps : TracedView → List Line → Explainer → Type 0
Keeps t lines s = s.traced ≡ t

goes_on : (t : TracedView) (n : ℕ) (r : Result RouteView LineFault) → is_end (why_run t n r).reply ≡ false
goes_on t n (Ok route) = refl
goes_on t n (Err found) = refl

line_goes_on : (t : TracedView) (line : Line) → is_end (code_why t line).reply ≡ false
line_goes_on t line = goes_on t line.0 (route_in (Some t.size) line.1)

keeps : (t : TracedView) (before : List Line) (s mid : Explainer) (line : Line) (answer : Answer) → Keeps t before s
    → answers s line.0 line.1 answer mid → (answer ≡ code_why t line) × Keeps t (before ++ line ∷ []) mid
unfolding Keeps
keeps t before s mid line answer h a = (a.1 ∙ ap (λ (u : TracedView). code_why u line) h, a.0 ∙ h)

pub ends_well : (t : TracedView) (s after : Explainer) → s.traced ≡ t → (input : List ℕ) (left held holds : Option (List ℕ)) (n : ℕ)
    → Finishes answers routes_limit s after input left held holds n → AnswersEach (code_why t) input left held holds n
unfolding Keeps
ends_well t s after h input left held holds n f =
    (answered.ends_well Explainer answers (code_why t) (Keeps t) (line_goes_on t) (keeps t) s after h input left held holds n f).0

pub breaks_off : (t : TracedView) (fault : StreamFault) (s now : Explainer) → s.traced ≡ t → (input : List ℕ)
    (left held holds : Option (List ℕ)) → Stops answers (λ _ _. ⊤) routes_limit fault s now input left held holds
    → AnswersFirst (code_why t) fault input left held holds
unfolding Keeps
breaks_off t fault s now h =
    answered.breaks_off Explainer answers (code_why t) (Keeps t) (line_goes_on t) (keeps t) fault s now h
