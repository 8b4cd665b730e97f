-- What a contract sees of verified code.
use Rattle.std.specs.Prelude.{ℕ}
use Rattle.filter_code.specs.CodeView.{CodeView}

-- the code, and the size of the domains that it was verified for
pub record VerifiedView : Type 0 where
  pub program : CodeView
  pub size : ℕ
