-- What a contract sees of an out-state.
use Rattle.filter_verifier.specs.declared.fault.VerifyFault.{VerifyFault}
use Rattle.filter_verifier.specs.AbstractFrameView.{AbstractFrameView}

-- what is known after an instruction: nothing was tested, since no path leads to it; a test failed; or all tests passed,
-- and this is known at each successor
pub data OutStateView : Type 0 where
  Skipped : OutStateView
  Refused : (why : VerifyFault) → OutStateView
  Passed : (next : AbstractFrameView) → OutStateView
