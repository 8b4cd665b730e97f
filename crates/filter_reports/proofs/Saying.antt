-- Code that means what a filter means, and never goes wrong, says just what the filter says.
use Rattle.std.proofs.Common.{◌≡◌, ℕ, Result, Ok, Err, IfOk, subst}
use Rattle.filter_code.specs.declared.outcome.Outcome.{Outcome}
use Rattle.filter_code.specs.declared.outcome.Outcome.TheVariants as outcome
use Rattle.filter_code.specs.RouteView.{RouteView}
use Rattle.filter_code.specs.Machine.{outcome_of}
use Rattle.filter_code.specs.CodeView as code
use Rattle.filter_compiler.specs.Need.{need}
use Rattle.filter_compiler.specs.Same.{Agrees, MeansTheSame}
use Rattle.filter_compiler.specs.Translation.{code_of}
use Rattle.filter_compiler.specs.Verdicts.{Verdict, meaning}
use Rattle.filter_syntax.specs.SyntaxText as syntax
use Rattle.filter_verifier.specs.Safe.{IsSafe}
use Rattle.filter_verifier.proofs.Ends.{outcome_well}
use Rattle.filter_verifier.proofs.Steps.{EndsWell}
use Rattle.filter_reports.specs.Saying.{Says, SaysTheSame}

-- an outcome that agrees with a verdict and is no fault says it
said : (operands : ℕ) (route : RouteView) (verdict : Verdict) (end : Outcome) → Agrees operands verdict end →
    EndsWell route end → Says verdict end
said operands route verdict (outcome.Accept metric) agrees well = agrees
said operands route verdict outcome.Reject agrees well = agrees
said operands route verdict (outcome.Fault why at) agrees well = well

pub says_the_same : (filter : syntax.FilterView) (program : code.CodeView) (size : ℕ) → MeansTheSame filter program →
    IsSafe program size → SaysTheSame filter program size
says_the_same filter program size means safe = record {
  says = λ route of_size.
      said (need filter) route (meaning filter route) (outcome_of program route) (means.agrees route)
      (outcome_well program size safe route of_size);
}

-- what follows from two facts of an answer
pub both_answered : {A E : Type 0} (r : Result A E) (P Q R : A → Type 0) → ((a : A) → P a → Q a → R a) → IfOk r P →
    IfOk r Q → IfOk r R
both_answered (Ok a) P Q R f p q = f a p q
both_answered (Err e) P Q R f p q = tt

-- it says the same, where it is safe
pub says_where_safe : (filter : syntax.FilterView) (program : code.CodeView) (size : ℕ) → program ≡ code_of filter →
    MeansTheSame filter program → IsSafe program size → SaysTheSame filter (code_of filter) size
says_where_safe filter program size is means safe =
    subst (λ (p : code.CodeView). SaysTheSame filter p size) is (says_the_same filter program size means safe)
