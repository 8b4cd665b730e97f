-- How a run of `filter --coverage` ends.
use Rattle.std.proofs.Common.{◌≡◌, ℕ, ◌+◌, ◌-◌, ◌^◌, ◌<◌, ◌≤◌, true, false, List, ◌++◌, length, min}
use Rattle.std.proofs.Common.{Option, IfSome, inr, ap, subst, ◌∙◌, arith}
use Rattle.std.specs.Prelude.{◌⊎◌, slice_index}
use Rattle.std.specs.Io.KnownBytes.{Appends}
use Rattle.std.proofs.lemmas.List.Sums.{count_by-le-length}
use Rattle.filter_syntax.specs.SyntaxText.{FilterView}
use Rattle.line_protocol.specs.Lines.{numbered}
use Rattle.line_protocol.specs.declared.faults.StreamFault.{StreamFault}
use Rattle.route_answers.proofs.EvalEndings.{if_known}
use Rattle.filter_reports.specs.Cuts.{IsCut}
use Rattle.route_answers.specs.Filtering.{AnswersEach, AnswersFirst, routes_limit}
use Rattle.filter_traces.proofs.Counts.{below, few_lines}
use Rattle.filter_traces.proofs.Lists.{same_lines}
use Rattle.filter_traces.specs.Commands.{chosen_lines, coverage_text, lines_among}
use Rattle.filter_traces.specs.Coverage.{Covers, CoversCut, CoversEach, CoversFirst, CoversOff, HasCounted, cover_answer, hits, line_comes_to}
use Rattle.filter_traces.specs.TracedView.{TracedView}
use Rattle.filter_traces.specs.Whys.{IsTraceOf}
use Rattle.filter_traces.specs.declared.coverage.Counter.{Counter}

-- no count comes to its limit
exact : (t : TracedView) (input : List ℕ) (k : ℕ) → length input ≤ routes_limit
    → min (hits t (numbered input) k) (2 ^ 64 - 1) ≡ hits t (numbered input) k
exact t input k short =
    let counted : hits t (numbered input) k ≤ length (numbered input) = count_by-le-length (line_comes_to t k) (numbered input) in
    let few : length (numbered input) ≤ length input + 1 = few_lines input in
    below (2 ^ 64 - 1) (hits t (numbered input) k) (omega (arith, counted, few, short))

-- what is told of the commands by the counts that are kept is what it is by the lines
pub counts_tell : (t : TracedView) (s : Counter) (input : List ℕ) → length input ≤ routes_limit → HasCounted t (numbered input) s
    → lines_among s.traced (slice_index s.counts.items) (length s.counts.items) ≡ coverage_text t (hits t (numbered input))
counts_tell t s input short h =
    let same = λ (k : ℕ) (less : k < length t.program.instrs). h.each k less ∙ exact t input k short in
    let all = length t.program.instrs in
    ap (λ (u : TracedView). lines_among u (slice_index s.counts.items) (length s.counts.items)) h.same
    ∙ (ap (lines_among t (slice_index s.counts.items)) h.room
    ∙ (ap (λ (text : List ℕ). text ++ chosen_lines t false (slice_index s.counts.items) all)
    (same_lines t true (slice_index s.counts.items) (hits t (numbered input)) all same)
    ∙ ap (λ (text : List ℕ). chosen_lines t true (hits t (numbered input)) all ++ text)
    (same_lines t false (slice_index s.counts.items) (hits t (numbered input)) all same)))

-- what was written of the commands
pub diagnosis : (t : TracedView) (s : Counter) (known left held mid holds : Option (List ℕ)) (n : ℕ)
    → IfSome known (λ input. AnswersEach (cover_answer t.size) input left held mid n × HasCounted t (numbered input) s × (length input ≤ routes_limit))
    → Appends mid holds (lines_among s.traced (slice_index s.counts.items) (length s.counts.items))
    → IfSome known (λ input. CoversEach t input left held holds n)
diagnosis t s known left held mid holds n counted written =
    if_known known (λ input f. record { mid = mid; answered = f.0; written = subst (Appends mid holds) (counts_tell t s input f.2 f.1) written }) counted

-- and where that was cut
pub told_off : (t : TracedView) (s : Counter) (fault : StreamFault) (known left held mid holds : Option (List ℕ)) (n : ℕ)
    → IfSome known (λ input. AnswersEach (cover_answer t.size) input left held mid n × HasCounted t (numbered input) s × (length input ≤ routes_limit))
    → IsCut fault mid holds (lines_among s.traced (slice_index s.counts.items) (length s.counts.items))
    → IfSome known (λ input. AnswersFirst (cover_answer t.size) fault input left held holds ⊎ CoversCut t fault input left held holds)
told_off t s fault known left held mid holds n counted cut_short =
    if_known known
    (λ input f. inr (record { mid = mid; refused = n; answered = f.0; cut = subst (IsCut fault mid holds) (counts_tell t s input f.2 f.1) cut_short }))
    counted

-- what was counted of a filter of a text
module _ (text : List ℕ) (size : ℕ) (filter : FilterView) (t : TracedView) (is : IsTraceOf text size filter t) where
  pub covered : (known left held holds : Option (List ℕ)) (n : ℕ) → IfSome known (λ input. CoversEach t input left held holds n)
      → IfSome known (λ input. Covers size text input left held holds n)
  covered known left held holds n = if_known known (λ input f. (filter, t, is, f))

  pub broken_off : (known left held holds : Option (List ℕ)) (fault : StreamFault)
      → IfSome known (λ input. CoversFirst t fault input left held holds)
      → IfSome known (λ input. CoversOff fault size text input left held holds)
  broken_off known left held holds fault = if_known known (λ input f. inr (filter, t, is, f))
