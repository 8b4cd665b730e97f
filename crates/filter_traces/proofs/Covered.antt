-- How the service that counts answers the lines of a run.
use Rattle.std.proofs.Common.{◌≡◌, ℕ, ◌-◌, ◌^◌, ◌<◌, ◌≤◌, List, [], ◌∷◌, ◌++◌, length, min, Option}
use Rattle.std.proofs.Common.{Some, Result, Ok, Err, false, refl, sym, ap, subst, ◌∙◌}
use Rattle.std.specs.Prelude.{⊤, slice_index}
use Rattle.std.specs.Io.KnownBytes.{Consumes}
use Rattle.std.proofs.lemmas.List.{append-nil}
use Rattle.filter_code.specs.RouteView.{RouteView}
use Rattle.line_protocol.specs.Answers.{Answer, is_end}
use Rattle.line_protocol.specs.Lines.{numbered}
use Rattle.line_protocol.specs.Runs.{Finishes, Stops}
use Rattle.line_protocol.specs.declared.faults.StreamFault.{StreamFault}
use Rattle.route_answers.specs.Eval.{Line}
use Rattle.route_answers.specs.declared.line_fault.LineFault.{LineFault}
use Rattle.route_answers.specs.Filtering.{AnswersEach, AnswersFirst, routes_limit}
use Rattle.route_answers.specs.RouteLine.{route_in}
use Rattle.route_answers.proofs.Answered as answered
use Rattle.filter_traces.proofs.Counts.{capped_more, count_more}
use Rattle.filter_traces.specs.Coverage.{HasCounted, IsCounted, cover_answer, cover_read, hits, line_comes_to}
use Rattle.filter_traces.specs.Hits.{counted_up}
use Rattle.filter_traces.specs.TracedView.{TracedView}
use Rattle.filter_traces.specs.declared.coverage.Counter.{Counter}

-- how the service answers a line
abbrev pub answers : Counter → ℕ → List ℕ → Answer → Counter → Type 0
answers before number line answer after = IsCounted before after (number, line) × (answer ≡ cover_answer before.traced.size (number, line))

goes_on : (n : ℕ) (r : Result RouteView LineFault) → is_end (cover_read n r).reply ≡ false
goes_on n (Ok route) = refl
goes_on n (Err found) = refl

line_goes_on : (size : ℕ) (line : Line) → is_end (cover_answer size line).reply ≡ false
line_goes_on size line = goes_on line.0 (route_in (Some size) line.1)

-- what is counted at a place of one line more
counted_more : (t u : TracedView) (before : List Line) (line : Line) (k then now : ℕ) → u ≡ t
    → then ≡ min (hits t before k) (2 ^ 64 - 1) → now ≡ counted_up (line_comes_to u k line) then
    → now ≡ min (hits t (before ++ line ∷ []) k) (2 ^ 64 - 1)
counted_more t u before line k then now same so_far more =
    more ∙ (ap (λ (v : TracedView). counted_up (line_comes_to v k line) then) same
    ∙ (ap (counted_up (line_comes_to t k line)) so_far
    ∙ (capped_more (line_comes_to t k line) (hits t before k)
    ∙ ap (λ (n : ℕ). min n (2 ^ 64 - 1)) (sym (count_more (line_comes_to t k) before line)))))

keeps : (t : TracedView) (before : List Line) (s mid : Counter) (line : Line) (answer : Answer) → HasCounted t before s
    → answers s line.0 line.1 answer mid → (answer ≡ cover_answer t.size line) × HasCounted t (before ++ line ∷ []) mid
keeps t before s mid line answer h a = (
  a.1 ∙ ap (λ (u : TracedView). cover_answer u.size line) h.same,
  record {
    same = a.0.same ∙ h.same;
    room = a.0.room ∙ h.room;
    each = λ k less.
        let inside : k < length s.counts.items = subst (λ (n : ℕ). k < n) (sym h.room) less in
        counted_more t s.traced before line k (slice_index s.counts.items k) (slice_index mid.counts.items k) h.same (h.each k less) (a.0.each k inside);
  },
)

pub ends_well : (t : TracedView) (s after : Counter) → HasCounted t [] s → (input : List ℕ) (left held holds : Option (List ℕ)) (n : ℕ)
    → Finishes answers routes_limit s after input left held holds n
    → AnswersEach (cover_answer t.size) input left held holds n × HasCounted t (numbered input) after × (length input ≤ routes_limit)
ends_well t s after h input left held holds n f =
    let e = answered.ends_well Counter answers (cover_answer t.size) (HasCounted t) (line_goes_on t.size) (keeps t) s after h input left held holds n f in
    let P : Option (List ℕ) → Type 0 = λ o. Consumes (Some input) o f.read in
    let all : input ≡ f.read ++ [] = subst P e.0.to_end f.consumed in
    (e.0, e.1, subst (λ (x : List ℕ). length x ≤ routes_limit) (sym (all ∙ append-nil f.read)) f.within)

pub breaks_off : (t : TracedView) (fault : StreamFault) (s now : Counter) → HasCounted t [] s → (input : List ℕ)
    (left held holds : Option (List ℕ)) → Stops answers (λ _ _. ⊤) routes_limit fault s now input left held holds
    → AnswersFirst (cover_answer t.size) fault input left held holds
breaks_off t = answered.breaks_off Counter answers (cover_answer t.size) (HasCounted t) (line_goes_on t.size) (keeps t)
