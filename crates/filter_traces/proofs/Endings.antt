-- How a run of `filter --why` ends, by its text.
use Rattle.std.proofs.Common.{◌≡◌, ℕ, List, Option, Some, None, IfSome, inl, inr, refl, sym, subst}
use Rattle.filter_syntax.specs.SyntaxText.{FilterView}
use Rattle.filter_verifier.specs.Safe.{IsSafe}
use Rattle.line_protocol.specs.declared.faults.StreamFault.{StreamFault}
use Rattle.line_protocol.specs.declared.faults.StreamFault.TheVariants as stream
use Rattle.route_answers.proofs.EvalEndings.{if_known}
use Rattle.route_answers.specs.Eval.{Line}
use Rattle.route_answers.proofs.Answered.{each_alike, first_alike}
use Rattle.route_answers.specs.Filtering.{AnswersEach, AnswersFirst}
use Rattle.filter_traces.proofs.Meant.{why_as_meant}
use Rattle.filter_traces.specs.TracedView.{TracedView}
use Rattle.std.specs.Prelude.{◌⊎◌}
use Rattle.filter_traces.specs.Whys.{IsTraceOf, LacksMemory, Whys, WhysOff, code_why, why_answer}

-- nothing was read or written
pub lacks_memory : (Else : List ℕ → Type 0) (known held : Option (List ℕ))
    → IfSome known (λ input. LacksMemory stream.Memory input known held held ⊎ Else input)
lacks_memory Else None held = tt
lacks_memory Else (Some input) held = inl (refl, refl, refl)

-- what is told of a filter of a text is what the text means
module _ (text : List ℕ) (size : ℕ) (filter : FilterView) (t : TracedView) (is : IsTraceOf text size filter t) where
  alike : (line : Line) → code_why t line ≡ why_answer filter t line
  alike line = why_as_meant filter t is.translates.means (subst (IsSafe t.program) (sym is.for_size) is.safe) line

  pub explained : (known left held holds : Option (List ℕ)) (n : ℕ) → IfSome known (λ input. AnswersEach (code_why t) input left held holds n)
      → IfSome known (λ input. Whys size text input left held holds n)
  explained known left held holds n =
      if_known known (λ input f. (filter, t, is, each_alike (code_why t) (why_answer filter t) alike input left held holds n f))

  pub broken_off : (known left held holds : Option (List ℕ)) (fault : StreamFault)
      → IfSome known (λ input. AnswersFirst (code_why t) fault input left held holds)
      → IfSome known (λ input. WhysOff fault size text input left held holds)
  broken_off known left held holds fault =
      if_known known (λ input f.
      inr (filter, t, is, first_alike (code_why t) (why_answer filter t) alike fault input left held holds f))
