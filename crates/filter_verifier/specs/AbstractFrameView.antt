-- What a contract sees of an abstract frame.
use Rattle.std.specs.Prelude.{Option, List}
use Rattle.filter_verifier.specs.declared.fact.Fact.{Fact}

-- what is known of the places of a stack, its top first, and of the local variables
pub record AbstractFrameView : Type 0 where
  pub stack : List (Option Fact)
  pub locals : List (Option Fact)
