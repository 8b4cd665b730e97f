-- When code means what a filter means.
use Rattle.std.specs.Prelude.{◌≡◌, ℕ, ◌<◌}
use Rattle.filter_code.specs.declared.outcome.FaultKind.TheVariants as fault
use Rattle.filter_code.specs.declared.outcome.Outcome.{Outcome}
use Rattle.filter_code.specs.declared.outcome.Outcome.TheVariants as outcome
use Rattle.filter_code.specs.Limits.{stack_limit}
use Rattle.filter_code.specs.RouteView.{RouteView}
use Rattle.filter_code.specs.Machine.{outcome_of}
use Rattle.filter_code.specs.CodeView as code
use Rattle.filter_syntax.specs.SyntaxText as syntax
use Rattle.filter_compiler.specs.Need.{need}
use Rattle.filter_compiler.specs.Verdicts.{Verdict, accepted, rejected, divided, meaning}

-- the outcome that a verdict has: accept, reject and a division by zero are as the verdict says; the stack may also be
-- too small, but only for what needs more operands than it holds; and there is no other fault
abbrev pub Agrees : ℕ → Verdict → Outcome → Type 0
Agrees operands verdict (outcome.Accept metric) = verdict ≡ accepted metric
Agrees operands verdict outcome.Reject = verdict ≡ rejected
Agrees operands verdict (outcome.Fault fault.ZeroDivisor at) = verdict ≡ divided
Agrees operands verdict (outcome.Fault fault.FullStack at) = stack_limit < operands
Agrees operands verdict (outcome.Fault _ at) = ⊥

-- for every route the code's outcome is what the filter says
pub record MeansTheSame (filter : syntax.FilterView) (program : code.CodeView) : Type 0 where
  pub agrees : (route : RouteView) → Agrees (need filter) (meaning filter route) (outcome_of program route)
