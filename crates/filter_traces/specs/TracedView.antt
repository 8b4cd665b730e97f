-- What a contract sees of a filter whose runs are traced.
use Rattle.std.specs.Prelude.{ℕ, List}
use Rattle.filter_code.specs.CodeView.{CodeView}
use Rattle.filter_traces.specs.declared.site.InstructionSite.{InstructionSite}

-- the code and the size of the domains that it was verified for, the text, and where in it each instruction comes from
pub record TracedView : Type 0 where
  pub program : CodeView
  pub size : ℕ
  pub text : List ℕ
  pub sites : List InstructionSite
