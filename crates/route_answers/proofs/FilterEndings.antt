-- How a run of `filter` ends, by its text.
use Rattle.std.proofs.Common.{◌≡◌, ℕ, List, Option, IfSome, ◌∙◌, ap}
use Rattle.filter_verifier.specs.VerifiedView.{VerifiedView}
use Rattle.line_protocol.specs.declared.faults.StreamFault.{StreamFault}
use Rattle.filter_reports.specs.VerifiedFilters.{IsVerifiedOf}
use Rattle.route_answers.proofs.Answered.{answer_by, each_alike, first_alike}
use Rattle.route_answers.proofs.EvalEndings.{if_known}
use Rattle.route_answers.proofs.Meant.{as_meant}
use Rattle.route_answers.specs.Eval.{Line}
use Rattle.route_answers.specs.Filtering.{AnswersEach, AnswersFirst, filter_answer}

-- the verified code of a text answers as the text means
module _ (text : List ℕ) (size : ℕ) (v : VerifiedView) (is : IsVerifiedOf size text v) where
  alike : (line : Line) → answer_by v line ≡ filter_answer is.filter size line
  alike line = as_meant is.filter v.program v.size is.translates.means is.safe line ∙ ap (λ (n : ℕ). filter_answer is.filter n line) is.size_is

  pub answered : (known left held holds : Option (List ℕ)) (n : ℕ)
      → IfSome known (λ input. AnswersEach (answer_by v) input left held holds n)
      → IfSome known (λ input. AnswersEach (filter_answer is.filter size) input left held holds n)
  answered known left held holds n =
      if_known known (λ input f. each_alike (answer_by v) (filter_answer is.filter size) alike input left held holds n f)

  pub broken_off : (known left held holds : Option (List ℕ)) (fault : StreamFault)
      → IfSome known (λ input. AnswersFirst (answer_by v) fault input left held holds)
      → IfSome known (λ input. AnswersFirst (filter_answer is.filter size) fault input left held holds)
  broken_off known left held holds fault =
      if_known known (λ input f. first_alike (answer_by v) (filter_answer is.filter size) alike fault input left held holds f)
